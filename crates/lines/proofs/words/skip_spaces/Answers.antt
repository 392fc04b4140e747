use Rattle.std.proofs.Common.{◌≡◌, ℕ, ◌<◌, get_or, rules}
use Rattle.lines.proofs.WordLaws.{rest_same, skipped}
use Rattle.lines.proofs.words.skip_spaces.Goals as goal

pub returns-clause-same : goal.returns-clause-same
returns-clause-same c =
    let s = c.args.line.now in
    let n = c.unwrap_or-start.result in
    let spaces : (k : ℕ) → k < n → get_or s k 0 ≡ 32 = λ k h. search rules in
    rest_same s n _ (skipped s n (search rules) spaces)

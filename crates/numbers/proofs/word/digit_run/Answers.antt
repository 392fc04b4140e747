use Rattle.std.proofs.Common.{◌≡◌, ℕ, ◌<◌, not, false, get_or, sym, ◌∙◌, rules}
use Rattle.std.specs.Char.{is_ascii_digit}
use Rattle.std.proofs.lemmas.List.Sums.{position_or_len_is}
use Rattle.numbers.proofs.Words.{run_is}
use Rattle.numbers.proofs.word.digit_run.Goals as goal

pub returns-clause-is : goal.returns-clause-is
returns-clause-is c =
    let xs = c.args.bytes.now in
    let i = c.unwrap_or.result in
    let before : (k : ℕ) → k < i → not (is_ascii_digit (get_or xs k 0)) ≡ false = λ k h. search rules in
    sym (position_or_len_is (λ b. not (is_ascii_digit b)) xs i 0 (search rules) before (λ h. search rules)) ∙ sym (run_is xs)

use Rattle.std.proofs.Common.{◌≡◌, get_or, ap, ◌∙◌, rules, Option, None, Some, List, ℕ, [], Bor, refl}
use Rattle.std.specs.Option.{option_map, unwrap_or}
use Rattle.std.proofs.lemmas.Option.{unwrap_or-slice_get}
use Rattle.std.proofs.lemmas.Iterator.Consumers.{YieldsList-from_first, nth_from_yields_List}
use Rattle.lines.specs.Words.{words}
use Rattle.lines.specs.Rest.{words_left}
use Rattle.commands.proofs.arguments.Arguments.word.Goals as goal

-- the bytes behind a reference, or none
bytes_or : (o : Option (Bor (List ℕ))) (d : Bor (List ℕ)) → d.now ≡ [] → (unwrap_or o d).now ≡ unwrap_or (option_map (λ x. x.now) o) []
bytes_or None d e = e
bytes_or (Some x) d e = refl

pub returns : goal.returns
returns c =
    let ws = words c.args.self.line.now in
    let found = nth_from_yields_List c.nth.result c.nth.new.self c.saturating_sub.result c.nth.ensures.ran (YieldsList-from_first (λ y. y.now) words_left ws c.new.ensures) in
    ap (λ b. b.now) c.unwrap_or.ensures ∙ bytes_or c.nth.result _ (search rules) ∙ ap (λ o. unwrap_or o []) found ∙ unwrap_or-slice_get ws c.saturating_sub.result [] ∙ ap (λ n. get_or ws n []) c.saturating_sub.ensures

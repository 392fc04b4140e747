use Rattle.std.proofs.Common.{List, take, ap, ◌∙◌, rules}
use Rattle.model.specs.declared.Row.{Row}
use Rattle.edits.specs.Places.{last_allows}
use Rattle.edits.proofs.PasteLaws.{last_told}
use Rattle.edits.proofs.flags.last_allows.Goals as goal

pub returns : goal.returns
returns c =
    last_told (take c.args.n c.rows.result.now) c.args.flag c.last.result c.is_none_or.result c.last.ensures.value c.is_none_or.ensures (λ h. h) (λ x h. search rules)
    ∙ ap (λ (l : List Row). last_allows (take c.args.n l) c.args.flag) c.rows.ensures

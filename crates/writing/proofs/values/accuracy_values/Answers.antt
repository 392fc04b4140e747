use Rattle.std.proofs.Common.{get_or, pos, rules}
use Rattle.std.proofs.lemmas.List.FromFn.{fill_by_all}
use Rattle.records.specs.declared.field.Value.TheVariants.{Number}
use Rattle.writing.proofs.values.accuracy_values.Goals as goal

pub returns : goal.returns
returns c =
    let items = c.map.ensures.items in
    let none = Number (pos 0) in
    fill_by_all (λ i. Number (get_or c.args.accuracy.values i (pos 0))) c.map.result 9 none items.long (λ i h. let called = (items.at i (pos 0) none h).2 in search rules)

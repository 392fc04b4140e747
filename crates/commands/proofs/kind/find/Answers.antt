use Rattle.std.proofs.Common.{sym, ◌∙◌, ap, rules, tests}
use Rattle.std.proofs.lemmas.Iterator.Adapters.{option_map_id}
use Rattle.std.specs.Str.{bytes_eq}
use Rattle.std.proofs.lemmas.Iterator.{YieldsList-from_slice}
use Rattle.std.proofs.lemmas.Iterator.Consumers.{YieldsList-from_copied}
use Rattle.std.proofs.lemmas.Iterator.Search.{find_from_yields_List}
use Rattle.commands.specs.Kinds.{form_of}
use Rattle.commands.proofs.Names.{named_is}
use Rattle.commands.proofs.kind.find.Goals as goal

pub returns : goal.returns
returns c =
    let name = c.args.name.now in
    let kinds = c.args.kinds.now in
    sym (option_map_id c.find.result)
    ∙ find_from_yields_List (λ k. bytes_eq (form_of k).name name) _ _ c.find.result c.find.ensures.ran (YieldsList-from_copied (YieldsList-from_slice kinds (ap (λ i. i.rest.now) c.copied.ensures.source ∙ c.iter.ensures.rest))) (λ x b q k. search (rules, tests))
    ∙ sym (named_is name kinds)

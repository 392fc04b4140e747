use Rattle.std.proofs.Common.{◌+◌, map, refl, sym, ap, ◌∙◌, arith, rules}
use Rattle.std.proofs.lemmas.List.{length-map}
use Rattle.std.proofs.lemmas.Iterator.{YieldsList-from_range}
use Rattle.std.proofs.lemmas.Iterator.Search.{all_from_yields_List}
use Rattle.tables.specs.Lines.{place}
use Rattle.tables.specs.Windows.{flag_of, same_flags}
use Rattle.tables.proofs.Places.{cut_more}
use Rattle.tables.proofs.Flags.{is_flag, flag_read, flags_in_turn}
use Rattle.tables.proofs.windows.same_flags.Goals as goal

pub returns : goal.returns
returns g c =
    let fs = map flag_of (g.T.PredictionTable.rows c.args.t.now) in
    let n = length-map (g.T.PredictionTable.rows c.args.t.now) flag_of in
    let f = c.flag_at-first.result in
    all_from_yields_List (λ k. is_flag f (place fs k)) _ _ c.all.result c.all.ensures.ran
    (YieldsList-from_range (c.args.from + 1) (c.args.from + 10) 9 refl (omega arith)) (λ x b q h. (search rules, search (rules, flag_read)))
    ∙ flags_in_turn fs f 9 (c.args.from + 1) (omega arith)
    ∙ sym (ap same_flags (cut_more fs c.args.from 9 f c.flag_at-first.ensures))

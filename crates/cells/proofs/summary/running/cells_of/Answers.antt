use Rattle.std.proofs.Common.{◌≡◌, ◌∷◌, Some, sym, ap, ◌∙◌, rules}
use Rattle.std.proofs.lemmas.List.{at_drop_all}
use Rattle.cells.specs.Cells.{extended_by, started, cells_by}
use Rattle.cells.proofs.CellLaws.{cells_by_lem}
use Rattle.cells.proofs.summary.running.cells_of.Goals as goal

pub returns : goal.returns
returns c =
    let first = c.in_ok-first.first.now in
    let rest = c.in_ok-first.rest.now in
    let rows : c.args.rows.now ≡ first ∷ rest = search rules in
    let all : c.loop-row.summary ≡ extended_by (started first) rest = sym (at_drop_all (extended_by c.loop-row.summary) rest c.loop-row.row-index c.loop-row-test.false) ∙ c.loop-row.invariant.0 ∙ ap (λ s. extended_by s rest) c.start-summary.ensures in
    rw rows (ap Some (c.cells.ensures ∙ ap cells_by all ∙ cells_by_lem first rest))

use Rattle.std.proofs.Common.{◌≡◌, ◌+◌, drop}
use Rattle.cells.specs.Cells.{extended_by}
use Rattle.cells.proofs.summary.running.cells_of.Given as goal

abbrev pub invariant-loop-row : goal.invariant-loop-row
invariant-loop-row l = (extended_by l.summary (drop l.row-index l.rest) ≡ extended_by l.initial.summary l.rest) × (l.summary.count ≡ l.row-index + 1)

use Rattle.std.proofs.Common.{◌≤◌, length, drop}
use Rattle.tables.specs.Ends.{EndsRead}
use Rattle.shifts.specs.Stacks.{piled}
use Rattle.shifts.proofs.stacks.stacked_read.Given as goal

-- the row under the shifts from place n on
abbrev pub invariant-loop-n : goal.invariant-loop-n
invariant-loop-n g l = EndsRead (piled (drop l.n l.shifts) (g.T.PredictionTable.rows l.below)) l.i l.read × (l.n ≤ length l.shifts)

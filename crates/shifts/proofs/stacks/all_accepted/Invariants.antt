use Rattle.std.proofs.Common.{◌≡◌, ◌≤◌, true, length, drop}
use Rattle.shifts.specs.Stacks.{all_accepted}
use Rattle.shifts.proofs.stacks.all_accepted.Given as goal

-- the shifts from place n on are taken
abbrev pub invariant-loop-n : goal.invariant-loop-n
invariant-loop-n g l = (true ≡ all_accepted (drop l.n l.shifts) (g.T.PredictionTable.rows l.below)) × (l.n ≤ length l.shifts)

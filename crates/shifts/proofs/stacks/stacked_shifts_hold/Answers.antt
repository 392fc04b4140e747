use Rattle.shifts.proofs.Stacked.{stacked_shifts}
use Rattle.shifts.proofs.stacks.stacked_shifts_hold.Goals as goal

pub returns : goal.returns
returns c = stacked_shifts

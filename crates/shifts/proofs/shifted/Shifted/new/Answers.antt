use Rattle.std.proofs.Common.{refl}
use Rattle.shifts.proofs.Rows.{shift_zero}
use Rattle.shifts.proofs.shifted.Shifted.new.Goals as goal

pub returns : goal.returns
returns g c = record { shift = refl; below = refl; rows = shift_zero (g.T.PredictionTable.rows c.args.below.now) }

use Rattle.std.proofs.Common.{w64}
use Rattle.std.proofs.lemmas.Int.{to_z-of_z}
use Rattle.shifts.proofs.Rows.{read_moved, read_kept, shifted_err}
use Rattle.shifts.proofs.moves.shifted_read.Goals as goal

pub returns-in-Ok-move_read : goal.returns-in-Ok-move_read
returns-in-Ok-move_read g c =
    read_moved c.args.shift _ (g.T.PredictionTable.rows c.args.below.now) c.args.i c.in-Ok.read c.in-Ok-move_read.moved
    (to_z-of_z w64 c.args.shift c.ranges.shift) c.in-Ok.ensures c.in-Ok-move_read.ensures

pub returns-in-Err-move_read : goal.returns-in-Err-move_read
returns-in-Err-move_read g c =
    read_kept c.args.shift _ (g.T.PredictionTable.rows c.args.below.now) c.args.i c.in-Ok.read _
    (to_z-of_z w64 c.args.shift c.ranges.shift) c.in-Ok.ensures c.in-Err-move_read.ensures

pub returns-in-Err : goal.returns-in-Err
returns-in-Err g c = shifted_err c.args.shift (g.T.PredictionTable.rows c.args.below.now) c.args.i _ c.in-Err.ensures

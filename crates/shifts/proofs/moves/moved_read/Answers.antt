use Rattle.std.proofs.Common.{w64}
use Rattle.std.proofs.lemmas.Int.{to_z-of_z}
use Rattle.shifts.proofs.Rows.{read_moved, read_kept}
use Rattle.shifts.proofs.moves.moved_read.Goals as goal

pub returns-in-Ok : goal.returns-in-Ok
returns-in-Ok c = λ rows i h. read_moved c.args.shift _ rows i c.args.read c.in-Ok.moved (to_z-of_z w64 c.args.shift c.ranges.shift) h c.in-Ok.ensures

pub returns-in-Err : goal.returns-in-Err
returns-in-Err c = λ rows i h. read_kept c.args.shift _ rows i c.args.read _ (to_z-of_z w64 c.args.shift c.ranges.shift) h c.in-Err.ensures

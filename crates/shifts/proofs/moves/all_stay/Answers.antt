use Rattle.std.proofs.Common.{w64}
use Rattle.std.proofs.lemmas.Int.{to_z-of_z}
use Rattle.shifts.proofs.Rows.{ok_stays, none_stay}
use Rattle.shifts.proofs.moves.all_stay.Goals as goal

pub returns-in_default : goal.returns-in_default
returns-in_default g c = none_stay c.args.shift (g.T.PredictionTable.rows c.args.below.now) _ c.in_default.ensures

pub returns : goal.returns
returns g c =
    ok_stays c.args.shift _ (g.T.PredictionTable.rows c.args.below.now) 0 c.in-Ok.read c.move_read.result c.is_ok.result
    (to_z-of_z w64 c.args.shift c.ranges.shift) c.in-Ok.ensures c.move_read.ensures c.is_ok.ensures.value

use Rattle.shifts.proofs.Rows.{shifted_count}
use Rattle.shifts.proofs.shifted.ShiftedTimeLine.count.Goals as goal

pub returns : goal.returns
returns g c =
    shifted_count c.args.self.now.shift (g.T.TimeLine.instants c.args.self.now.below.now) (g.T.PredictionTable.rows c.args.self.now.below.now) c.count.result
    c.by_rows.ensures c.count.ensures

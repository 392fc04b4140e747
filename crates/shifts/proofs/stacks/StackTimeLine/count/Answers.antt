use Rattle.shifts.proofs.Stacked.{piled_count}
use Rattle.shifts.proofs.stacks.StackTimeLine.count.Goals as goal

pub returns : goal.returns
returns g c =
    piled_count c.args.self.now.shifts.now (g.T.TimeLine.instants c.args.self.now.below.now) (g.T.PredictionTable.rows c.args.self.now.below.now) c.count.result
    c.by_rows.ensures c.count.ensures

use Rattle.std.proofs.Common.{length, refl, subst, arith}
use Rattle.tables.specs.Lines.{Ascending}
use Rattle.shifts.proofs.Stacked.{up_piled, piled_count}
use Rattle.shifts.proofs.stacks.StackTimeLine.in_order.Goals as goal

pub returns : goal.returns
returns g c = record {
  ascending = up_piled c.args.self.now.shifts.now (g.T.PredictionTable.rows c.args.self.now.below.now) (subst Ascending c.by_rows.ensures c.in_order.ensures.ascending);
  short =
      let s = c.in_order.ensures.short in
      let e = piled_count c.args.self.now.shifts.now (g.T.TimeLine.instants c.args.self.now.below.now) (g.T.PredictionTable.rows c.args.self.now.below.now)
      (length (g.T.TimeLine.instants c.args.self.now.below.now)) c.by_rows.ensures refl in
      omega arith;
}

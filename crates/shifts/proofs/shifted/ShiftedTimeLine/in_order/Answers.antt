use Rattle.std.proofs.Common.{length, refl, subst, arith}
use Rattle.tables.specs.Lines.{Ascending}
use Rattle.shifts.proofs.Rows.{up_shifted, shifted_count}
use Rattle.shifts.proofs.shifted.ShiftedTimeLine.in_order.Goals as goal

pub returns : goal.returns
returns g c = record {
  ascending = up_shifted c.args.self.now.shift (g.T.PredictionTable.rows c.args.self.now.below.now) (subst Ascending c.by_rows.ensures c.in_order.ensures.ascending);
  short =
      let s = c.in_order.ensures.short in
      let e = shifted_count c.args.self.now.shift (g.T.TimeLine.instants c.args.self.now.below.now) (g.T.PredictionTable.rows c.args.self.now.below.now)
      (length (g.T.TimeLine.instants c.args.self.now.below.now)) c.by_rows.ensures refl in
      omega arith;
}

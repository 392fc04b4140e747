use Rattle.std.proofs.Common.{arith}
use Rattle.calendar.specs.Instants.{moment}
use Rattle.tables.proofs.Orders.{not_after_le}
use Rattle.tables.proofs.windows.window_at.Goals as goal

pub overflow_add-before : goal.overflow_add-before
overflow_add-before g c =
    let s = c.in_order.ensures.short in
    let e = c.count_not_after-before.ensures in
    let u = not_after_le (g.T.TimeLine.instants c.args.t.now) (moment c.args.at) in
    omega arith

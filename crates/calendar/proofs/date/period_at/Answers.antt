use Rattle.std.proofs.Common.{arith}
use Rattle.calendar.proofs.date.period_at.Goals as goal

pub loop-period-preserved : goal.loop-period-preserved
loop-period-preserved g c =
    λ start steps. omega (arith, steps c.loop-period.period c.length-long.result (omega arith) (omega arith) c.length-long.ensures, c.loop-period.invariant start steps)

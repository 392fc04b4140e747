use Rattle.std.proofs.Common.{◌≤◌, sym, arith}
use Rattle.calendar.specs.Dates.{day_number}
use Rattle.calendar.proofs.Dates.{days_in_calendar}
use Rattle.calendar.proofs.date.Date.day_number.Goals as goal

small : (c : goal.After-days_before_month) → day_number c.args.self.now ≤ 88068
small c = (days_in_calendar c.args.self.now (sym c.if-not-exists.ensures)).1

pub overflow_add-before : goal.overflow_add-before
overflow_add-before c = omega (arith, small c)

pub overflow_add-result : goal.overflow_add-result
overflow_add-result c = omega (arith, small c)

pub overflow_add-result-2 : goal.overflow_add-result-2
overflow_add-result-2 c = omega (arith, small c)

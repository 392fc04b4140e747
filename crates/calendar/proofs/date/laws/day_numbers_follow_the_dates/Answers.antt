use Rattle.calendar.proofs.Dates.{days_in_order}
use Rattle.calendar.proofs.date.laws.day_numbers_follow_the_dates.Goals as goal

pub returns : goal.returns
returns c = days_in_order

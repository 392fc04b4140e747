use Rattle.calendar.proofs.Dates.{days_in_calendar}
use Rattle.calendar.proofs.date.laws.day_numbers_are_in_the_calendar.Goals as goal

pub returns : goal.returns
returns c = days_in_calendar

use Rattle.calendar.proofs.Dates.{every_date_is_of_its_day}
use Rattle.calendar.proofs.date.laws.every_date_is_of_its_day.Goals as goal

pub returns : goal.returns
returns c = every_date_is_of_its_day

use Rattle.calendar.proofs.Dates.{every_day_has_its_date}
use Rattle.calendar.proofs.date.laws.every_day_has_its_date.Goals as goal

pub returns : goal.returns
returns c = every_day_has_its_date

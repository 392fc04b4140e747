use Rattle.calendar.proofs.Dates.{date_edges}
use Rattle.calendar.proofs.date.laws.known_dates_hold.Goals as goal

pub returns : goal.returns
returns c = date_edges

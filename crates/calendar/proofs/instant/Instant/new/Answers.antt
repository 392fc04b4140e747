use Rattle.calendar.proofs.Moments.{instant_if_self}
use Rattle.calendar.proofs.instant.Instant.new.Goals as goal

pub returns : goal.returns
returns c = instant_if_self _

use Rattle.round_trip.proofs.FileLaws.{files_are_short}
use Rattle.round_trip.proofs.files_are_short.Goals as goal

pub returns : goal.returns
returns c = files_are_short

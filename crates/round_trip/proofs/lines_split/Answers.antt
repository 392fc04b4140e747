use Rattle.round_trip.proofs.LineLaws.{lines_split}
use Rattle.round_trip.proofs.lines_split.Goals as goal

pub returns : goal.returns
returns c = lines_split

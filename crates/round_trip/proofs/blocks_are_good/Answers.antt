use Rattle.round_trip.proofs.HeldLines.{blocks_are_good}
use Rattle.round_trip.proofs.blocks_are_good.Goals as goal

pub returns : goal.returns
returns c = blocks_are_good

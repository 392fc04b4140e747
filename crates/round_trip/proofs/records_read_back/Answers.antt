use Rattle.round_trip.proofs.RecordLaws.{records_read_back}
use Rattle.round_trip.proofs.records_read_back.Goals as goal

pub returns : goal.returns
returns c = records_read_back

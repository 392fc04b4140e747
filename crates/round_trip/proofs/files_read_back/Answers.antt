use Rattle.round_trip.proofs.FileLaws.{canonical_files_are_files, files_read_back}
use Rattle.round_trip.proofs.files_read_back.Goals as goal

pub returns : goal.returns
returns c = record { file = canonical_files_are_files; opens = files_read_back }

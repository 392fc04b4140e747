use Rattle.round_trip.proofs.OpeningLaws.{openings_are_good, rewritten_files_open, rewriting_settles}
use Rattle.round_trip.proofs.opened_files_read_back.Goals as goal

pub returns : goal.returns
returns c = record { good = openings_are_good; opens = rewritten_files_open; settles = rewriting_settles }

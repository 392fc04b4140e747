use Rattle.format.proofs.Exact.{opening_exact, contents_unique}
use Rattle.format.proofs.law.reading_is_exact.Goals as goal

pub returns : goal.returns
returns c = record { exact = opening_exact; unique = contents_unique }

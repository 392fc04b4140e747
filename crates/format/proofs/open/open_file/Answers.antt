use Rattle.format.proofs.OpenLaws.{opened_as_file}
use Rattle.format.proofs.open.open_file.Goals as goal

pub returns : goal.returns
returns c = opened_as_file _ _ _ _ _ c.open.ensures.holds

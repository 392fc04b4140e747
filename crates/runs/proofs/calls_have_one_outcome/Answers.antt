use Rattle.runs.proofs.Outcomes.{runs_exist, runs_are_determined}
use Rattle.runs.proofs.calls_have_one_outcome.Goals as goal

pub returns : goal.returns
returns c = record { some = runs_exist; only = runs_are_determined }

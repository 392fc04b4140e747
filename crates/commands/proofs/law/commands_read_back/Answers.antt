use Rattle.commands.proofs.Back.{commands_back}
use Rattle.commands.proofs.law.commands_read_back.Goals as goal

pub returns : goal.returns
returns c = commands_back

use Rattle.writing.proofs.OutputLaws.{puts_none}
use Rattle.writing.proofs.text.OptionText.put.Goals as goal

pub returns-in_default : goal.returns-in_default
returns-in_default g c = rw c.in_default.is (puts_none c.args.out.now)

use Rattle.std.proofs.Common.{length, refl, arith}
use Rattle.writing.proofs.OutputLaws.{puts_part}
use Rattle.writing.proofs.output.Output.put.Goals as goal

pub returns-in-Some : goal.returns-in-Some
returns-in-Some c = puts_part _ c.args.self.now c.advance.new.self _ c.args.text.now c.in-Some.at (length c.args.text.now) _ c.advance.ensures.bytes c.in-Some.ensures.place c.copy_from_slice.ensures.after refl (omega arith) (omega arith)

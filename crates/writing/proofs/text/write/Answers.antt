use Rattle.std.proofs.Common.{◌∙◌, arith, rules}
use Rattle.writing.proofs.OutputLaws.{fits}
use Rattle.writing.proofs.text.write.Goals as goal

pub returns-clause-after : goal.returns-clause-after
returns-clause-after g c =
    let text = g.T.Text.text c.args.text.now in
    let done = fits _ c.new.result c.put.new.out c.args.out.now text c.new.ensures.len c.new.ensures.bytes (omega (arith, c.measure-len.ensures, c.if-len-out.false)) c.put.ensures in
    (search rules) ∙ done.1

use Rattle.lines.proofs.TextLaws.{by_answer}
use Rattle.lines.proofs.reader.Lines.next_line.Goals as goal

pub returns-clause-text : goal.returns-clause-text
returns-clause-text c = rw c.unwrap_or.ensures (by_answer _ _ _ _ c.next.result c.next.ensures.gives c.next.ensures.at)

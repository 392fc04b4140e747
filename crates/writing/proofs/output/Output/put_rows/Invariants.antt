use Rattle.std.proofs.Common.{◌*◌, take}
use Rattle.writing.specs.Outputs.{Puts}
use Rattle.writing.specs.Files.{rows_text}
use Rattle.writing.proofs.output.Output.put_rows.Given as goal

abbrev pub invariant-loop-row : goal.invariant-loop-row
invariant-loop-row l = Puts (14000 * l.row-index) l.initial.self (rows_text (take l.row-index l.rows)) l.self

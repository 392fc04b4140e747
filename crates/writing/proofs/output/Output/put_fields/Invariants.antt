use Rattle.std.proofs.Common.{◌*◌, length, take}
use Rattle.writing.specs.Outputs.{Puts}
use Rattle.writing.specs.Texts.{fields_text}
use Rattle.writing.proofs.output.Output.put_fields.Given as goal

abbrev pub invariant-loop-field : goal.invariant-loop-field
invariant-loop-field l = let n = length l.yielded in Puts (301 * n) l.initial.self (fields_text (take n l.fields) (take n l.values)) l.self

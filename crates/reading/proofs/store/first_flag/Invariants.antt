use Rattle.std.proofs.Common.{◌≡◌, ◌-◌, [], length, drop}
use Rattle.lines.specs.Texts.{text_of}
use Rattle.reading.specs.Stores.{rows_on, rows_in}
use Rattle.reading.proofs.store.first_flag.Given as goal

abbrev pub invariant-loop-line : goal.invariant-loop-line
invariant-loop-line l = (rows_on l.lines.line (text_of (drop l.lines.at l.text)).lines [] ≡ rows_in l.text) × (l.lines.file.now ≡ l.text)

abbrev pub decreases-loop-line : goal.decreases-loop-line
decreases-loop-line l = length l.text - l.lines.at

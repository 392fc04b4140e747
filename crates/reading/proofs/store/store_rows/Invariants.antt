use Rattle.std.proofs.Common.{◌≡◌, ◌-◌, ◌≤◌, length, take, drop}
use Rattle.lines.specs.Texts.{text_of}
use Rattle.reading.specs.Stores.{rows_on, rows_in}
use Rattle.reading.proofs.store.store_rows.Given as goal

abbrev pub invariant-loop-line : goal.invariant-loop-line
invariant-loop-line l =
    (rows_on l.lines.line (text_of (drop l.lines.at l.text)).lines (take l.n l.rows) ≡ rows_in l.text)
    × (l.lines.file.now ≡ l.text)
    × (l.n ≤ length l.rows)

abbrev pub decreases-loop-line : goal.decreases-loop-line
decreases-loop-line l = length l.text - l.lines.at

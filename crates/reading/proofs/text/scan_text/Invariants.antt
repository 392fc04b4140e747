use Rattle.std.proofs.Common.{◌≡◌, ◌-◌, ◌≤◌, length, drop}
use Rattle.lines.specs.Texts.{text_of}
use Rattle.reading.specs.Scans.{row_count}
use Rattle.reading.specs.Texts.{scan_from}
use Rattle.reading.proofs.text.scan_text.Given as goal

abbrev pub invariant-loop-line : goal.invariant-loop-line
invariant-loop-line l =
    (scan_from l.lines.line (text_of (drop l.lines.at l.text)) l.scan ≡ scan_from 0 (text_of l.text) l.initial.scan)
    × (l.lines.file.now ≡ l.text)
    × (row_count l.scan ≤ l.lines.line)

abbrev pub decreases-loop-line : goal.decreases-loop-line
decreases-loop-line l = length l.text - l.lines.at

use Rattle.std.specs.Prelude.{ℕ, ◌+◌, Bool, true, false, cond, ◌&&◌, pos, Some, None, Ok, Err, Option, Result, ◌==◌, int_le, unsigned_abs}
use Rattle.refusal.specs.declared.Refusal.{Refusal}
use Rattle.refusal.specs.declared.Refusal.TheVariants.{OutOfPlace, CellsDisagree}
use Rattle.cells.specs.declared.summary.DaySecond.{DaySecond}
use Rattle.cells.specs.declared.summary.Cells.{Cells}
use Rattle.cells.specs.declared.summary.Summary.{Summary}
use Rattle.cells.specs.Cells.{cells_by}
use Rattle.reading.specs.declared.build.Span.{Span}
use Rattle.reading.specs.declared.scan.Scan.{Scan}
use Rattle.reading.specs.declared.stage.Stage.{Stage}
use Rattle.reading.specs.declared.stage.Stage.TheVariants as at
use Rattle.reading.specs.declared.stage.Part.{Part}
use Rattle.reading.specs.declared.stage.Part.TheVariants as part
use Rattle.reading.specs.Order.{rows_done}

abbrev pub same_second : DaySecond → DaySecond → Bool
same_second a b = a.day == b.day && a.second == b.second

-- H2 states the start, the end and the interval of the rows
abbrev pub span_agrees : Span → Cells → Bool
span_agrees p c = same_second p.start c.start && (same_second p.end c.end && (int_le (pos 0) p.interval && unsigned_abs p.interval == c.interval))

abbrev pub is_end : Stage → Bool
is_end at.Start = false
is_end at.H1 = false
is_end at.H2 = false
is_end at.H3 = false
is_end at.H5 = false
is_end at.H9 = false
is_end at.FirstPosition = false
is_end at.Position = false
is_end at.AwaitsVelocity = false
is_end at.Velocity = false
is_end at.End = true

abbrev pub span_refusal_by : Span → Option Summary → Result (Unit {0}) Refusal
span_refusal_by p None = Err CellsDisagree
span_refusal_by p (Some m) = cond (span_agrees p (cells_by m)) (Ok tt) (Err CellsDisagree)

abbrev pub span_refusal : Scan → Result (Unit {0}) Refusal
span_refusal s = span_refusal_by s.span s.summary

-- a file ends with its trailer, a block with a whole row
abbrev pub end_refusal_of : Part → Scan → ℕ → Result (Unit {0}) Refusal
end_refusal_of part.File s n = cond (is_end s.stage) (span_refusal s) (Err (OutOfPlace (n + 1)))
end_refusal_of part.Block s n = cond (rows_done s.stage) (Ok tt) (Err (OutOfPlace (n + 1)))

-- the end after n lines
abbrev pub end_refusal : Scan → ℕ → Result (Unit {0}) Refusal
end_refusal s n = end_refusal_of s.part s n

use Rattle.std.specs.Prelude.{ℕ, ◌+◌, ◌-◌, ◌/◌, ◌%◌, Bool, true, cond, ◌&&◌, ◌||◌, List, [], ◌∷◌, length, Some, None, Option, ◌==◌, nat_le}
use Rattle.calendar.specs.declared.instant.Instant.{Instant}
use Rattle.calendar.specs.Instants.{moment, day_of_instant}
use Rattle.model.specs.declared.Row.{Row}
use Rattle.cells.specs.declared.summary.DaySecond.{DaySecond}
use Rattle.cells.specs.declared.summary.Cells.{Cells}
use Rattle.cells.specs.declared.summary.Summary.{Summary}

-- an instant without its fraction of a second
abbrev pub day_second : Instant → DaySecond
day_second i = record { day = i.day; second = i.micros / 1000000 }

-- the seconds from one instant to the next, where they are a whole number up to 99,999; else 0
abbrev pub seconds_if : ℕ → ℕ
seconds_if micros = cond (micros % 1000000 == 0 && nat_le (micros / 1000000) 99999) (micros / 1000000) 0

abbrev pub step_seconds : Instant → Instant → ℕ
step_seconds from to = seconds_if (moment to - moment from)

-- every step of the rows, the first of which comes after the instant given, has d seconds
abbrev pub every_step : ℕ → Instant → List Row → Bool
every_step d at [] = true
every_step d at (r ∷ rs) = d == step_seconds at r.at && every_step d r.at rs

-- the interval: the common step of two rows or more, else 0
abbrev pub interval_of : List Row → ℕ
interval_of [] = 0
interval_of (r ∷ []) = 0
interval_of (r ∷ (s ∷ rs)) = cond (every_step (step_seconds r.at s.at) s.at rs) (step_seconds r.at s.at) 0

abbrev pub last_of : Instant → List Row → Instant
last_of at [] = at
last_of at (r ∷ rs) = last_of r.at rs

-- the cells of one row or more
abbrev pub cells_of : Row → List Row → Cells
cells_of r rs = record { count = length (r ∷ rs); start = day_second r.at; end = day_second (last_of r.at rs); interval = interval_of (r ∷ rs); in_calendar = (day_of_instant r.at, day_of_instant (last_of r.at rs)) }

abbrev pub cells_if : List Row → Option Cells
cells_if [] = None
cells_if (r ∷ rs) = Some (cells_of r rs)

-- the same, row by row
abbrev pub started : Row → Summary
started r = record { count = 1; first = r.at; last = r.at; flag = r.flag; interval = 0 }

abbrev pub next_interval : ℕ → ℕ → ℕ → ℕ
next_interval count interval step = cond (count == 1 || interval == step) step 0

abbrev pub extended : Summary → Row → Summary
extended s r = record { count = s.count + 1; first = s.first; last = r.at; flag = r.flag; interval = next_interval s.count s.interval (step_seconds s.last r.at) }

abbrev pub extended_by : Summary → List Row → Summary
extended_by s [] = s
extended_by s (r ∷ rs) = extended_by (extended s r) rs

abbrev pub cells_by : Summary → Cells
cells_by s = record { count = s.count; start = day_second s.first; end = day_second s.last; interval = s.interval; in_calendar = (day_of_instant s.first, day_of_instant s.last) }

-- the summary of rows; None where there is no row
abbrev pub summary_if : List Row → Option Summary
summary_if [] = None
summary_if (r ∷ rs) = Some (extended_by (started r) rs)

abbrev pub summary_with : Option Summary → Row → Summary
summary_with None r = started r
summary_with (Some m) r = extended m r

abbrev pub count_in : Option Summary → ℕ
count_in None = 0
count_in (Some m) = m.count

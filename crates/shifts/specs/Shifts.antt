use Rattle.std.specs.Prelude.{ℕ, suc, ◌+◌, ◌-◌, ◌/◌, ◌%◌, Bool, true, cond, ◌&&◌, List, [], ◌∷◌, map, ℤ, pos, negsuc, Ok, Err, Result, nat_le, unsigned_abs}
use Rattle.refusal.specs.declared.Refusal.{Refusal}
use Rattle.refusal.specs.declared.Refusal.TheVariants.{OutsideCalendar, ShiftTooLarge}
use Rattle.calendar.specs.declared.instant.Instant.{Instant}
use Rattle.calendar.specs.Instants.{moment, in_calendar, instant_of}
use Rattle.model.specs.declared.Row.{Row}
use Rattle.tables.specs.declared.lines.RowAndEnds.{RowAndEnds}

-- a moment so many microseconds later; one before day 0 counts as the start of day 0, which is outside the calendar
abbrev pub moved : ℤ → ℕ → ℕ
moved (pos n) m = m + n
moved (negsuc n) m = m - suc n

-- the instant so many microseconds later is in the calendar
abbrev pub stays : ℤ → Instant → Bool
stays s i = in_calendar (moved s (moment i) / 86400000000) (moved s (moment i) % 86400000000)

abbrev pub move_instant : ℤ → Instant → Instant
move_instant s i = instant_of (moved s (moment i) / 86400000000) (moved s (moment i) % 86400000000)

-- the row at the later instant
abbrev pub move_row : ℤ → Row → Row
move_row s r = record { at = move_instant s r.at; flag = r.flag; position = r.position; velocity = r.velocity }

abbrev pub move_row_if : ℤ → Row → Result Row Refusal
move_row_if s r = cond (stays s r.at) (Ok (move_row s r)) (Err OutsideCalendar)

-- the row and the ends of a table, where all three stay in the calendar
abbrev pub read_stays : ℤ → RowAndEnds → Bool
read_stays s read = stays s read.row.at && (stays s read.first.at && stays s read.last.at)

abbrev pub move_read : ℤ → RowAndEnds → RowAndEnds
move_read s read = record { row = move_row s read.row; first = move_row s read.first; last = move_row s read.last }

abbrev pub move_read_if : ℤ → RowAndEnds → Result RowAndEnds Refusal
move_read_if s read = cond (read_stays s read) (Ok (move_read s read)) (Err OutsideCalendar)

abbrev pub all_stay : ℤ → List Row → Bool
all_stay s [] = true
all_stay s (r ∷ rs) = stays s r.at && all_stay s rs

-- the rows of a shifted table; a shift by which a row would leave the calendar is never accepted, and moves nothing
abbrev pub shift_rows : ℤ → List Row → List Row
shift_rows s rs = cond (all_stay s rs) (map (move_row s) rs) rs

-- a shift of at most a day that keeps every row in the calendar
abbrev pub accepts : ℤ → List Row → Bool
accepts s rs = nat_le (unsigned_abs s) 86400000000 && all_stay s rs

abbrev pub shift_answer : ℤ → List Row → Result (Unit {0}) Refusal
shift_answer s rs = cond (accepts s rs) (Ok tt) (Err ShiftTooLarge)

use Rattle.std.specs.Prelude.{ℕ, ◌+◌, ◌-◌, Bool, true, cond, ◌&&◌, List, [], ◌∷◌, map, length, take, drop, Ok, Err, Result, ◌==◌, nat_lt}
use Rattle.refusal.specs.declared.Refusal.{Refusal}
use Rattle.refusal.specs.declared.Refusal.TheVariants.{OutsideCalendar, WindowTooEarly, WindowTooLate, WindowFlagsDiffer}
use Rattle.calendar.specs.declared.instant.Instant.{Instant}
use Rattle.calendar.specs.Instants.{moment, in_calendar, instant_of}
use Rattle.model.specs.declared.Row.{Row}
use Rattle.model.specs.declared.LeapFlag.{LeapFlag}
use Rattle.model.specs.declared.LeapFlag.TheVariants.{Removed, NoLeap, Added}
use Rattle.tables.specs.Lines.{time_of, not_after}

abbrev pub flag_of : Row → LeapFlag
flag_of r = r.flag

-- flags are compared by their place in the enum
abbrev pub flag_place : LeapFlag → ℕ
flag_place Removed = 0
flag_place NoLeap = 1
flag_place Added = 2

abbrev pub all_flag : LeapFlag → List LeapFlag → Bool
all_flag f [] = true
all_flag f (g ∷ gs) = flag_place g == flag_place f && all_flag f gs

abbrev pub same_flags : List LeapFlag → Bool
same_flags [] = true
same_flags (f ∷ fs) = all_flag f fs

-- the window among rows with these flags, the first j of them not after the instant: rows j - 5 to j + 4
abbrev pub window_at : List LeapFlag → ℕ → Result ℕ Refusal
window_at fs j =
    cond (nat_lt j 5) (Err WindowTooEarly)
    (cond (nat_lt (length fs) (j + 5)) (Err WindowTooLate)
    (cond (same_flags (take 10 (drop (j - 5) fs))) (Ok (j - 5)) (Err WindowFlagsDiffer)))

-- the number of the first row of the window around an instant
abbrev pub window_of : List Row → Instant → Result ℕ Refusal
window_of rs at = window_at (map flag_of rs) (not_after (map time_of rs) (moment at))

-- the same for a day and microseconds of the day, which may lie outside the calendar
abbrev pub window_if : List Row → ℕ → ℕ → Result ℕ Refusal
window_if rs day micros = cond (in_calendar day micros) (window_of rs (instant_of day micros)) (Err OutsideCalendar)

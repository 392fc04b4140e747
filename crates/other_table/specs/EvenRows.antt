use Rattle.std.specs.Prelude.{ℕ, zero, suc, ◌+◌, ◌*◌, ◌/◌, ◌%◌, cond, List, [], ◌∷◌, pos, None, Ok, Err, Result, nat_le, nat_lt}
use Rattle.refusal.specs.declared.Refusal.{Refusal}
use Rattle.refusal.specs.declared.Refusal.TheVariants.{NotAfter, TooManyRows, OutsideCalendar}
use Rattle.calendar.specs.Instants.{in_calendar, instant_of}
use Rattle.model.specs.declared.Row.{Row}
use Rattle.model.specs.declared.LeapFlag.TheVariants.{NoLeap}

-- the row at a moment
abbrev pub row_at : ℕ → Row
row_at m = record { at = instant_of (m / 86400000000) (m % 86400000000); flag = NoLeap; position = record { x = pos 0; y = pos 0; z = pos 0 }; velocity = None }

-- so many rows from a moment on, each a step after the one before
abbrev pub rows_from : ℕ → ℕ → ℕ → List Row
rows_from m step zero = []
rows_from m step (suc n) = row_at m ∷ rows_from (m + step) step n

-- whether there is such a table: the first instant in the calendar, a step, few rows, and the end in the calendar
abbrev pub even_answer : ℕ → ℕ → ℕ → ℕ → Result (Unit {0}) Refusal
even_answer day micros step count =
    cond (in_calendar day micros)
    (cond (nat_lt 0 step)
    (cond (nat_le count 8192)
    (cond (nat_lt (day * 86400000000 + micros + count * (step * 1000000)) 7609161600000000) (Ok tt) (Err OutsideCalendar))
    (Err (TooManyRows 0)))
    (Err (NotAfter 0)))
    (Err OutsideCalendar)

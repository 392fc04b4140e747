use Rattle.std.specs.Prelude.{◌≡◌, ℕ, ◌+◌, ◌*◌, Bool, true, cond, ◌&&◌, List, [], ◌∷◌, ℤ, pos, ◌+ℤ◌, Err, Result}
use Rattle.refusal.specs.declared.Refusal.{Refusal}
use Rattle.refusal.specs.declared.Refusal.TheVariants.{ShiftTooLarge}
use Rattle.calendar.specs.declared.instant.Instant.{Instant}
use Rattle.calendar.specs.Instants.{moment, in_calendar}
use Rattle.model.specs.declared.Row.{Row}
use Rattle.tables.specs.Windows.{window_of, window_if}
use Rattle.shifts.specs.Shifts.{all_stay, shift_rows, accepts}

-- the rows under a stack of shifts, the topmost shift first
abbrev pub piled : List ℤ → List Row → List Row
piled [] rs = rs
piled (s ∷ ss) rs = shift_rows s (piled ss rs)

-- the sum of the shifts; one by which a row would leave the calendar moves nothing, and counts 0
abbrev pub total : List ℤ → List Row → ℤ
total [] rs = pos 0
total (s ∷ ss) rs = total ss rs +ℤ cond (all_stay s (piled ss rs)) s (pos 0)

-- a stack of shifts answers at an instant as the table below does at the instant less their sum
abbrev pub StackedShifts : Type 0
StackedShifts = (ss : List ℤ) (rs : List Row) (at low : Instant) → pos (moment at) ≡ pos (moment low) +ℤ total ss rs → window_of (piled ss rs) at ≡ window_of rs low

-- an answer for a day and microseconds of the day is that of the table below at the instant less the sum
abbrev pub AnswersAsBelow : ℤ → List Row → ℕ → ℕ → Result ℕ Refusal → Type 0
AnswersAsBelow sum rs day micros answer =
    (low : Instant) → in_calendar day micros ≡ true → pos (day * 86400000000 + micros) ≡ pos (moment low) +ℤ sum → answer ≡ window_of rs low

-- every shift of the stack is accepted over those below it
abbrev pub all_accepted : List ℤ → List Row → Bool
all_accepted [] rs = true
all_accepted (s ∷ ss) rs = all_accepted ss rs && accepts s (piled ss rs)

abbrev pub sum_of : List ℤ → ℤ
sum_of [] = pos 0
sum_of (s ∷ ss) = sum_of ss +ℤ s

-- the window of a table under a stack of shifts, refused where one of them is
abbrev pub window_under : List ℤ → List Row → ℕ → ℕ → Result ℕ Refusal
window_under ss rs day micros = cond (all_accepted ss rs) (window_if (piled ss rs) day micros) (Err ShiftTooLarge)

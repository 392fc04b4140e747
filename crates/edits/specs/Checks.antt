-- Why a paste or a cut is refused.
use Rattle.std.specs.Prelude.{ℕ, ◌+◌, ◌*◌, min, Bool, true, false, cond, not, ◌&&◌, List, [], ◌∷◌, length, Some, None, Ok, Err, Option, Result, nat_lt}
use Rattle.refusal.specs.declared.Refusal.{Refusal}
use Rattle.refusal.specs.declared.Refusal.TheVariants.{FlagChanges, TooManyRows, VelocitiesDiffer, TakenRowsExceed, NothingToCut, CutTakesAll, OutsideCalendar}
use Rattle.calendar.specs.Instants.{in_calendar}
use Rattle.model.specs.declared.Row.{Row}
use Rattle.model.specs.declared.Vector.{Vector}
use Rattle.model.specs.Flags.{allows}
use Rattle.tables.specs.Lines.{ascends}
use Rattle.reading.specs.declared.scan.Scan.{Scan}
use Rattle.reading.specs.declared.stage.Part.TheVariants.{Block}
use Rattle.reading.specs.Texts.{scan_of}
use Rattle.reading.specs.Stores.{rows_in}
use Rattle.journal.specs.declared.journal.Edit.TheVariants.{Paste, Cut}
use Rattle.edits.specs.Changes.{Change, change_of, first_moment, last_moment}

-- accepted, or refused
abbrev pub Answer : Type 0
Answer = Result (Unit {0}) Refusal

-- the first rule that holds refuses; a call that none refuses is accepted
abbrev pub rules : List (Bool × Refusal) → Answer
rules [] = Ok tt
rules (r ∷ rs) = cond r.0 (Err r.1) (rules rs)

abbrev pub none : {X : Type 0} → List X → Bool
none [] = true
none (x ∷ xs) = false

-- each row allows the leap flag of the next
abbrev pub next_allowed : Row → List Row → Bool
next_allowed r [] = true
next_allowed r (s ∷ rs) = allows r.flag s.flag

abbrev pub flags_stay : List Row → Bool
flags_stay [] = true
flags_stay (r ∷ rs) = next_allowed r rs && flags_stay rs

-- rows as a sheet has them: ascending, with leap flags that stay
abbrev pub in_order : List Row → Bool
in_order rows = ascends rows && flags_stay rows

-- either every row has a velocity or none has: the first one tells
abbrev pub is_some : Option Vector → Bool
is_some None = false
is_some (Some v) = true

abbrev pub moving : List Row → Bool
moving [] = false
moving (r ∷ rs) = is_some r.velocity

abbrev pub differ : Bool → Bool → Bool
differ true b = not b
differ false b = b

-- PASTE

-- the rows of the block go where they belong in time
abbrev pub paste_of : List Row → List Row → Change
paste_of block rows = change_of Paste (first_moment block) (last_moment block) block rows

-- what may refuse the rows of a block, in this order: velocities, room, leap flags of the whole result, memory for rows taken out
abbrev pub paste_rules : ℕ → ℕ → List Row → List Row → Change → List (Bool × Refusal)
paste_rules room hold rows block c =
    (differ (moving block) (moving rows), VelocitiesDiffer)
    ∷ (nat_lt (min room 8192) (length c.rows), TooManyRows 0)
    ∷ (not (flags_stay c.rows), FlagChanges 0)
    ∷ (nat_lt hold (length c.out), TakenRowsExceed)
    ∷ []

-- first the block itself: its length, its lines, its end
abbrev pub paste_by : ℕ → ℕ → List Row → List Row → Result Scan Refusal → Answer
paste_by room hold rows block (Err e) = Err e
paste_by room hold rows block (Ok s) = rules (paste_rules room hold rows block (paste_of block rows))

abbrev pub paste_checks : ℕ → ℕ → List Row → List ℕ → Answer
paste_checks room hold rows block = paste_by room hold rows (rows_in block) (scan_of Block None block)

-- CUT

-- a day and microseconds as one number, in the calendar or not
abbrev pub joined : ℕ → ℕ → ℕ
joined day micros = day * 86400000000 + micros

abbrev pub cut_of : ℕ → ℕ → List Row → Change
cut_of x y rows = change_of Cut x y [] rows

-- what may refuse a cut between two instants, in this order: the calendar, no row between them, no row left, memory for rows taken out
abbrev pub cut_rules : ℕ → Bool → Change → List (Bool × Refusal)
cut_rules hold inside c =
    (not inside, OutsideCalendar)
    ∷ (none c.out, NothingToCut)
    ∷ (none c.rows, CutTakesAll)
    ∷ (nat_lt hold (length c.out), TakenRowsExceed)
    ∷ []

abbrev pub cut_checks : ℕ → List Row → ℕ → ℕ → ℕ → ℕ → Answer
cut_checks hold rows day micros end_day end_micros =
    rules (cut_rules hold (in_calendar day micros && in_calendar end_day end_micros) (cut_of (joined day micros) (joined end_day end_micros) rows))

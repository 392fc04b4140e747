-- What a sheet holds, and what its calls answer.
use Rattle.std.specs.Prelude.{ℕ, ◌+◌, min, Bool, true, false, cond, not, List, [], ◌∷◌, map, Some, None, Ok, Err, Option, Result}
use Rattle.refusal.specs.declared.Refusal.{Refusal}
use Rattle.refusal.specs.declared.Refusal.TheVariants.{NoFileOpen, JournalEmpty}
use Rattle.model.specs.declared.Row.{Row}
use Rattle.model.specs.declared.header.Header.{Header}
use Rattle.journal.specs.declared.journal.Entry.{Entry}
use Rattle.edits.specs.Checks.{Answer, rules, none, paste_checks, cut_checks}
use Rattle.sheet.specs.Openings.{Contents, opened_from}

-- what a sheet has apart from its journal
pub record State : Type 0 where
  -- the rows that its memory has room for, and the memory for rows taken out
  pub room : ℕ
  pub hold : ℕ
  -- none while no file is open
  pub header : Option Header
  pub rows : List Row
  pub changes : ℕ

-- an entry of the journal, with the rows that its edit took out
pub record Past : Type 0 where
  pub entry : Entry
  pub out : List Row

-- a sheet: its journal has the newest edit first
pub record View : Type 0 where
  pub state : State
  pub journal : List Past

abbrev pub entry_of : Past → Entry
entry_of p = p.entry

abbrev pub entries_in : View → List Entry
entries_in v = map entry_of v.journal

-- as a sheet is made: no file is open
abbrev pub empty_state : ℕ → ℕ → State
empty_state room hold = record { room = room; hold = hold; header = None; rows = []; changes = 0 }

abbrev pub empty_view : ℕ → ℕ → View
empty_view room hold = record { state = empty_state room hold; journal = [] }

-- the state with a file opened: no change was made yet
abbrev pub with_file : State → Contents → State
with_file s c = record { room = s.room; hold = s.hold; header = Some c.header; rows = c.rows; changes = 0 }

-- the state with other rows, and one change more; the count stops at its greatest value
abbrev pub changed : State → List Row → State
changed s rows = record { room = s.room; hold = s.hold; header = s.header; rows = rows; changes = min (s.changes + 1) 4294967295 }

-- WHAT THE CALLS ANSWER

abbrev pub accepted : Result Contents Refusal → Answer
accepted (Ok c) = Ok tt
accepted (Err e) = Err e

abbrev pub is_open : Option Header → Bool
is_open None = false
is_open (Some h) = true

abbrev pub open_answer : State → List ℕ → Answer
open_answer s file = accepted (opened_from s.room file)

abbrev pub paste_answer : State → List ℕ → Answer
paste_answer s block = cond (is_open s.header) (paste_checks s.room s.hold s.rows block) (Err NoFileOpen)

-- a cut between two instants, each as a day and microseconds of the day
abbrev pub cut_answer : State → ℕ → ℕ → ℕ → ℕ → Answer
cut_answer s day micros end_day end_micros = cond (is_open s.header) (cut_checks s.hold s.rows day micros end_day end_micros) (Err NoFileOpen)

abbrev pub undo_answer : State → List Entry → Answer
undo_answer s es = rules ((not (is_open s.header), NoFileOpen) ∷ (none es, JournalEmpty) ∷ [])

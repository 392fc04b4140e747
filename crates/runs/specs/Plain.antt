-- The plain sheet: each entry of its journal keeps header and rows as they were before the edit, and undo puts them back. It has no
-- memory for rows taken out and moves no blocks.
use Rattle.std.specs.Prelude.{ℕ, zero, suc, ◌+◌, min, cond, List, [], ◌∷◌, map, length, take, Ok, Err, Option, Result, nat_le}
use Rattle.refusal.specs.declared.Refusal.{Refusal}
use Rattle.model.specs.declared.Row.{Row}
use Rattle.model.specs.declared.header.Header.{Header}
use Rattle.journal.specs.declared.journal.Entry.{Entry}
use Rattle.journal.specs.Journals.{taken_by}
use Rattle.reading.specs.Stores.{rows_in}
use Rattle.edits.specs.Changes.{Change}
use Rattle.edits.specs.Checks.{Answer, paste_of, cut_of, joined}
use Rattle.sheet.specs.Openings.{Contents, opened_from}
use Rattle.sheet.specs.States.{State, empty_state, with_file, changed, open_answer, paste_answer, cut_answer, undo_answer}

-- an edit not yet taken back: its entry, and header and rows before it
pub record Before : Type 0 where
  pub entry : Entry
  pub header : Option Header
  pub rows : List Row

pub record Plain : Type 0 where
  pub state : State
  pub journal : List Before

abbrev pub entry_before : Before → Entry
entry_before b = b.entry

abbrev pub plain_entries : Plain → List Entry
plain_entries p = map entry_before p.journal

-- with memory for so many rows and rows taken out
abbrev pub empty_plain : ℕ → ℕ → Plain
empty_plain room hold = record { state = empty_state room hold; journal = [] }

-- a call, with what it is handed: files and blocks are any bytes, instants any numbers
pub data Call : Type 0 where
  opens : List ℕ → Call
  pastes : List ℕ → Call
  cuts : ℕ → ℕ → ℕ → ℕ → Call
  undoes : Call

abbrev pub plain_answer : Plain → Call → Answer
plain_answer p (opens file) = open_answer p.state file
plain_answer p (pastes block) = paste_answer p.state block
plain_answer p (cuts day micros end_day end_micros) = cut_answer p.state day micros end_day end_micros
plain_answer p undoes = undo_answer p.state (plain_entries p)

-- the most of the k newest entries that leave room for n rows more
abbrev pub staying : ℕ → ℕ → List Entry → ℕ → ℕ
staying hold n es zero = 0
staying hold n es (suc k) = cond (nat_le (taken_by (take (suc k) es) + n) hold) (suc k) (staying hold n es k)

abbrev pub edited : Plain → Change → Plain
edited p c =
    record {
      state = changed p.state c.rows;
      journal =
          record { entry = c.entry; header = p.state.header; rows = p.state.rows }
          ∷ take (staying p.state.hold (length c.out) (plain_entries p) (min 15 (length p.journal))) p.journal;
    }

abbrev pub opened : Plain → Result Contents Refusal → Plain
opened p (Ok c) = record { state = with_file p.state c; journal = [] }
opened p (Err e) = p

-- what the newest entry keeps is put back
abbrev pub put_back : State → Before → State
put_back s b = record { room = s.room; hold = s.hold; header = b.header; rows = b.rows; changes = (changed s b.rows).changes }

abbrev pub undone : State → List Before → Plain
undone s [] = record { state = s; journal = [] }
undone s (b ∷ bs) = record { state = put_back s b; journal = bs }

-- an accepted call
abbrev pub taking : Plain → Call → Plain
taking p (opens file) = opened p (opened_from p.state.room file)
taking p (pastes block) = edited p (paste_of (rows_in block) p.state.rows)
taking p (cuts day micros end_day end_micros) = edited p (cut_of (joined day micros) (joined end_day end_micros) p.state.rows)
taking p undoes = undone p.state p.journal

-- a refused call changes nothing
abbrev pub on_answer : Answer → Plain → Plain → Plain
on_answer (Ok u) after before = after
on_answer (Err e) after before = before

abbrev pub plain_next : Plain → Call → Plain
plain_next p c = on_answer (plain_answer p c) (taking p c) p

abbrev pub plain_after : Plain → List Call → Plain
plain_after p [] = p
plain_after p (c ∷ cs) = plain_after (plain_next p c) cs

abbrev pub plain_answers : Plain → List Call → List Answer
plain_answers p [] = []
plain_answers p (c ∷ cs) = plain_answer p c ∷ plain_answers (plain_next p c) cs

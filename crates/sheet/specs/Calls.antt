-- What each call does: the sheet before it, what it was handed, what it answered, the sheet after it.
use Rattle.std.specs.Prelude.{◌≡◌, ℕ, List, [], ◌∷◌, length, take, Ok, Err, Result, MatchResult}
use Rattle.refusal.specs.declared.Refusal.{Refusal}
use Rattle.reading.specs.Stores.{rows_in}
use Rattle.journal.specs.Journals.{Keeps}
use Rattle.edits.specs.Changes.{Change, restored}
use Rattle.edits.specs.Checks.{Answer, paste_of, cut_of, joined}
use Rattle.sheet.specs.Openings.{Contents, opened_from}
use Rattle.sheet.specs.States.{Past, View, entries_in, with_file, changed, open_answer, paste_answer, cut_answer, undo_answer}

-- an opening replaces what was open and empties the journal; a refused one changes nothing
abbrev pub after_opening : View → Result Contents Refusal → View
after_opening v (Ok c) = record { state = with_file v.state c; journal = [] }
after_opening v (Err e) = v

pub record FileOpened (v : View) (file : List ℕ) (a : Answer) (w : View) : Type 0 where
  pub answer : a ≡ open_answer v.state file
  pub after : w ≡ after_opening v (opened_from v.state.room file)

-- an accepted edit: of the journal the most entries stay that may stay beside it
pub record Edited (v : View) (c : Change) (w : View) : Type 0 where
  pub kept : ℕ
  pub keeps : Keeps v.state.hold (length c.out) (entries_in v) kept
  pub state : w.state ≡ changed v.state c.rows
  pub journal : w.journal ≡ record { entry = c.entry; out = c.out } ∷ take kept v.journal

pub record Pasted (v : View) (block : List ℕ) (a : Answer) (w : View) : Type 0 where
  pub answer : a ≡ paste_answer v.state block
  pub after : MatchResult a (λ _. Edited v (paste_of (rows_in block) v.state.rows) w) (λ _. w ≡ v)

pub record CutOut (v : View) (day micros end_day end_micros : ℕ) (a : Answer) (w : View) : Type 0 where
  pub answer : a ≡ cut_answer v.state day micros end_day end_micros
  pub after : MatchResult a (λ _. Edited v (cut_of (joined day micros) (joined end_day end_micros) v.state.rows) w) (λ _. w ≡ v)

-- an accepted undo: the rows that the newest edit took out come back in place of those that it put in
pub record Restored (v w : View) : Type 0 where
  pub newest : Past
  pub older : List Past
  pub was : v.journal ≡ newest ∷ older
  pub state : w.state ≡ changed v.state (restored newest.entry newest.out v.state.rows)
  pub journal : w.journal ≡ older

pub record Undone (v : View) (a : Answer) (w : View) : Type 0 where
  pub answer : a ≡ undo_answer v.state (entries_in v)
  pub after : MatchResult a (λ _. Restored v w) (λ _. w ≡ v)

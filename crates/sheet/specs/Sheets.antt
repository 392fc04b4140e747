-- What is seen of a sheet, and what of it a refused call leaves.
use Rattle.std.specs.Prelude.{◌≡◌, List, [], length, take, Some, Ok, Err, Result, OnErr}
use Rattle.refusal.specs.declared.Refusal.{Refusal}
use Rattle.model.specs.declared.Row.{Row}
use Rattle.journal.specs.Journals.{entries_of}
use Rattle.edits.specs.Checks.{Answer}
use Rattle.sheet.specs.declared.sheet.Sheet.{Sheet}
use Rattle.sheet.specs.Openings.{Contents}
use Rattle.sheet.specs.Sound.{pasts_of}
use Rattle.sheet.specs.States.{State, View}

-- the rows of a sheet
abbrev pub rows_of : Sheet → List Row
rows_of s = take s.len s.rows.cells.now

-- both memories, the spare cells included
abbrev pub row_memory : Sheet → List Row
row_memory s = s.rows.cells.now

abbrev pub taken_memory : Sheet → List Row
taken_memory s = s.taken.cells.now

abbrev pub state_of : Sheet → State
state_of s = record { room = length (row_memory s); hold = length (taken_memory s); header = s.header; rows = rows_of s; changes = s.changes }

abbrev pub view : Sheet → View
view s = record { state = state_of s; journal = pasts_of (entries_of s.journal) (take s.held (taken_memory s)) }

-- nothing has changed, the spare cells included
pub record Unchanged (s t : Sheet) : Type 0 where
  pub header : t.header ≡ s.header
  pub len : t.len ≡ s.len
  pub journal : t.journal ≡ s.journal
  pub changes : t.changes ≡ s.changes
  pub rows : row_memory t ≡ row_memory s
  pub taken : taken_memory t ≡ taken_memory s

-- the sheet holds a file's contents, with an empty journal and no changes, in memory as large as before
pub record Holds (c : Contents) (s t : Sheet) : Type 0 where
  pub header : t.header ≡ Some c.header
  pub rows : rows_of t ≡ c.rows
  pub journal : entries_of t.journal ≡ []
  pub changes : t.changes ≡ 0
  pub room : length (row_memory t) ≡ length (row_memory s)
  pub taken : taken_memory t ≡ taken_memory s

-- what an opening answers, and what it leaves
abbrev pub Opened : Result (Unit {0}) Refusal → Result Contents Refusal → Sheet → Sheet → Type 0
Opened (Ok u) told s t = (c : Contents) × (told ≡ Ok c) × Holds c s t
Opened (Err e) told s t = (told ≡ Err e) × Unchanged s t

-- a refused call changes nothing; as many of the rows taken out are kept
abbrev pub KeptIfRefused : Answer → Sheet → Sheet → Type 0
KeptIfRefused a s t = OnErr a (Unchanged s t × (t.held ≡ s.held))

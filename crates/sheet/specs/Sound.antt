-- What a sheet keeps to: its rows are in order and fit, and so are those that come back by undoing.
use Rattle.std.specs.Prelude.{◌≡◌, ℕ, ◌+◌, ◌≤◌, min, Bool, true, ◌&&◌, List, [], ◌∷◌, length, take, drop, nat_le}
use Rattle.model.specs.declared.Row.{Row}
use Rattle.journal.specs.declared.journal.Entry.{Entry}
use Rattle.journal.specs.Journals.{taken_by}
use Rattle.edits.specs.Changes.{restored}
use Rattle.edits.specs.Checks.{in_order}
use Rattle.sheet.specs.States.{Past}

-- the entries with the rows that each took out: in the memory those of the oldest stand first
abbrev pub pasts_of : List Entry → List Row → List Past
pasts_of [] held = []
pasts_of (e ∷ es) held = record { entry = e; out = drop (taken_by es) held } ∷ pasts_of es (take (taken_by es) held)

abbrev pub fits : ℕ → List Row → Bool
fits room rows = in_order rows && nat_le (length rows) (min room 8192)

abbrev pub is_sound : ℕ → List Row → List Past → Bool
is_sound room rows [] = fits room rows
is_sound room rows (p ∷ ps) = fits room rows && (nat_le (p.entry.first + p.entry.put) (length rows) && is_sound room (restored p.entry p.out rows) ps)

-- the same as a statement
abbrev pub Fits : ℕ → List Row → Type 0
Fits room rows = (in_order rows ≡ true) × (length rows ≤ min room 8192)

abbrev pub Sound : ℕ → List Row → List Past → Type 0
Sound room rows [] = Fits room rows
Sound room rows (p ∷ ps) = Fits room rows × (p.entry.first + p.entry.put ≤ length rows) × Sound room (restored p.entry p.out rows) ps

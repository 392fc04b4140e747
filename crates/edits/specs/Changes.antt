-- What an edit makes of the rows of a sheet.
use Rattle.std.specs.Prelude.{ℕ, ◌+◌, ◌-◌, cond, List, [], ◌∷◌, ◌++◌, length, take, drop, nat_lt}
use Rattle.calendar.specs.Instants.{moment}
use Rattle.model.specs.declared.Row.{Row}
use Rattle.cells.specs.Cells.{last_of}
use Rattle.journal.specs.declared.journal.Edit.{Edit}
use Rattle.journal.specs.declared.journal.Entry.{Entry}

-- the moment of a row
abbrev pub moment_of : Row → ℕ
moment_of r = moment r.at

-- the rows before the moment x
abbrev pub before : ℕ → List Row → List Row
before x [] = []
before x (r ∷ rs) = cond (nat_lt (moment_of r) x) (r ∷ before x rs) (before x rs)

-- the rows from x to y, both included
abbrev pub between : ℕ → ℕ → List Row → List Row
between x y [] = []
between x y (r ∷ rs) = cond (nat_lt (moment_of r) x) (between x y rs) (cond (nat_lt y (moment_of r)) (between x y rs) (r ∷ between x y rs))

-- the rows after the moment y
abbrev pub behind : ℕ → List Row → List Row
behind y [] = []
behind y (r ∷ rs) = cond (nat_lt y (moment_of r)) (r ∷ behind y rs) (behind y rs)

-- what an edit comes to: the rows after it, those that it took out, and its entry in the journal
pub record Change : Type 0 where
  pub rows : List Row
  pub out : List Row
  pub entry : Entry

-- each row from x to y goes out, and the block comes there
abbrev pub change_of : Edit → ℕ → ℕ → List Row → List Row → Change
change_of edit x y block rows =
    record {
      rows = before x rows ++ (block ++ behind y rows);
      out = between x y rows;
      entry = record { edit = edit; first = length (before x rows); put = length block; taken = length (between x y rows) };
    }

-- the same by places: the rows from i up to j go out
abbrev pub change_at : Edit → ℕ → ℕ → List Row → List Row → Change
change_at edit i j block rows =
    record {
      rows = take i rows ++ (block ++ drop j rows);
      out = take (j - i) (drop i rows);
      entry = record { edit = edit; first = i; put = length block; taken = j - i };
    }

-- the rows with those that an edit took out in place of those that it put in
abbrev pub restored : Entry → List Row → List Row → List Row
restored e out rows = take e.first rows ++ (out ++ drop (e.first + e.put) rows)

-- the moments of the first and of the last row
abbrev pub first_moment : List Row → ℕ
first_moment [] = 0
first_moment (r ∷ rs) = moment_of r

abbrev pub last_moment : List Row → ℕ
last_moment [] = 0
last_moment (r ∷ rs) = moment (last_of r.at rs)

use Rattle.std.specs.Prelude.{◌≡◌, ℕ, ◌-◌, List, map, length, Ok}
use Rattle.model.specs.declared.Row.{Row}
use Rattle.tables.specs.declared.lines.RowAndEnds.{RowAndEnds}
use Rattle.tables.specs.Lines.{time_of, Ascending, place}

-- row i of the rows with the first and the last of them; the rows are in order
pub record EndsRead (rs : List Row) (i : ℕ) (read : RowAndEnds) : Type 0 where
  pub row : Ok read.row ≡ place rs i
  pub first : Ok read.first ≡ place rs 0
  pub last : Ok read.last ≡ place rs (length rs - 1)
  pub up : Ascending (map time_of rs)

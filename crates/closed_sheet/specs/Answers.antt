-- What a sheet tells of its header and rows.
use Rattle.std.specs.Prelude.{ℕ, List, Some, None, Ok, Err, Option, Result}
use Rattle.refusal.specs.declared.Refusal.{Refusal}
use Rattle.refusal.specs.declared.Refusal.TheVariants.{NoFileOpen}
use Rattle.model.specs.declared.Row.{Row}
use Rattle.model.specs.declared.header.Header.{Header}
use Rattle.cells.specs.declared.summary.Cells.{Cells}
use Rattle.cells.specs.Cells.{cells_if}
use Rattle.writing.specs.Files.{canonical}
use Rattle.writing.specs.Places.{write_answer, after_write}

-- the cells of a sheet; none while no file is open
abbrev pub cells_by : Option Cells → Result Cells Refusal
cells_by None = Err NoFileOpen
cells_by (Some c) = Ok c

abbrev pub cells_answer : Option Header → List Row → Result Cells Refusal
cells_answer None rows = Err NoFileOpen
cells_answer (Some h) rows = cells_by (cells_if rows)

abbrev pub header_answer : Option Header → Result Header Refusal
header_answer None = Err NoFileOpen
header_answer (Some h) = Ok h

-- the canonical file written at the start of an output, and the output after it
abbrev pub file_answer : Option Header → List Row → List ℕ → Result ℕ Refusal
file_answer None rows out = Err NoFileOpen
file_answer (Some h) rows out = write_answer (canonical h rows) out

abbrev pub after_file : Option Header → List Row → List ℕ → List ℕ
after_file None rows out = out
after_file (Some h) rows out = after_write (canonical h rows) out

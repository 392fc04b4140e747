-- The canonical file of a header and rows.
use Rattle.std.specs.Prelude.{ℕ, List, [], ◌∷◌, ◌++◌, Some, None, Option}
use Rattle.cells.specs.declared.summary.Cells.{Cells}
use Rattle.cells.specs.Cells.{cells_if}
use Rattle.model.specs.declared.Vector.{Vector}
use Rattle.model.specs.declared.Row.{Row}
use Rattle.model.specs.declared.header.Origin.{Origin}
use Rattle.model.specs.declared.header.Accuracy.{Accuracy}
use Rattle.model.specs.declared.header.Offset.{Offset}
use Rattle.model.specs.declared.header.Header.{Header}
use Rattle.records.specs.declared.record.Record.TheVariants.{H1, H2, H3, H5, H9, Position, Velocity, Trailer}
use Rattle.writing.specs.Texts.{text_if, record_text}
use Rattle.writing.specs.Values.{origin_values, satellite_values, accuracy_values, offset_values, position_values, velocity_values}

-- the lines of H1, H3, H5 and 20; but for the first they stand where the header or the row has them
abbrev pub origin_line : Origin → List ℕ
origin_line o = record_text H1 (origin_values o)

abbrev pub accuracy_line : Accuracy → List ℕ
accuracy_line a = record_text H3 (accuracy_values a)

abbrev pub offset_line : Offset → List ℕ
offset_line o = record_text H5 (offset_values o)

abbrev pub velocity_line : Vector → List ℕ
velocity_line v = record_text Velocity (velocity_values v)

abbrev pub accuracy_text : Option Accuracy → List ℕ
accuracy_text = text_if accuracy_line

abbrev pub offset_text : Option Offset → List ℕ
offset_text = text_if offset_line

abbrev pub velocity_text : Option Vector → List ℕ
velocity_text = text_if velocity_line

unfoldable pub header_text : Header → Cells → List ℕ
header_text h c =
    record_text H1 (origin_values h.origin) ++ (record_text H2 (satellite_values h.satellite c)
    ++ (accuracy_text h.accuracy ++ (offset_text h.offset ++ record_text H9 [])))

unfoldable pub row_text : Row → List ℕ
row_text r = record_text Position (position_values r) ++ velocity_text r.velocity

unfoldable pub rows_text : List Row → List ℕ
rows_text [] = []
rows_text (r ∷ rs) = row_text r ++ rows_text rs

-- the file of rows with these cells; there is none without rows
unfoldable pub file_text : Option Cells → Header → List Row → List ℕ
file_text None h rs = []
file_text (Some c) h rs = header_text h c ++ (rows_text rs ++ record_text Trailer [])

abbrev pub canonical : Header → List Row → List ℕ
canonical h rs = file_text (cells_if rs) h rs

use Rattle.std.specs.Prelude.{ℕ, ◌+◌, List, [], ◌∷◌, ◌++◌, drop, Some, None, Ok, Err, Option, Result}
use Rattle.refusal.specs.declared.Refusal.{Refusal}
use Rattle.model.specs.declared.LeapFlag.{LeapFlag}
use Rattle.model.specs.declared.Row.{Row}
use Rattle.model.specs.declared.Vector.{Vector}
use Rattle.lines.specs.Texts.{text_of}
use Rattle.records.specs.declared.record.Record.{Record}
use Rattle.records.specs.declared.record.Record.TheVariants as rec
use Rattle.records.specs.declared.field.Value.{Value}
use Rattle.records.specs.Types.{record_of}
use Rattle.records.specs.Reads.{read_record}
use Rattle.reading.specs.declared.part.RowPart.{RowPart}
use Rattle.reading.specs.declared.part.RowPart.TheVariants as parts
use Rattle.records.specs.Builds.{velocity_of}
use Rattle.reading.specs.Builds.{row_of}

abbrev pub with_velocity : Row → Vector → Row
with_velocity r v = record { at = r.at; flag = r.flag; position = r.position; velocity = Some v }

-- the last row gets its velocity
abbrev pub completed : List Row → Vector → List Row
completed [] v = []
completed (r ∷ []) v = with_velocity r v ∷ []
completed (r ∷ (s ∷ rs)) v = r ∷ completed (s ∷ rs) v

-- the rows with one part more
abbrev pub with_part : List Row → Option RowPart → List Row
with_part rows (Some (parts.Position r)) = rows ++ (r ∷ [])
with_part rows (Some (parts.Velocity v)) = completed rows v
with_part rows None = rows

abbrev pub position_part : Result (List Value) Refusal → Option RowPart
position_part (Ok vs) = Some (parts.Position (row_of vs))
position_part (Err e) = None

abbrev pub velocity_part : Result (List Value) Refusal → Option RowPart
velocity_part (Ok vs) = Some (parts.Velocity (velocity_of vs))
velocity_part (Err e) = None

abbrev pub part_by_record : ℕ → List ℕ → Record → Option RowPart
part_by_record line rest rec.H1 = None
part_by_record line rest rec.H2 = None
part_by_record line rest rec.H3 = None
part_by_record line rest rec.H5 = None
part_by_record line rest rec.H9 = None
part_by_record line rest rec.Position = position_part (read_record line rec.Position rest)
part_by_record line rest rec.Velocity = velocity_part (read_record line rec.Velocity rest)
part_by_record line rest rec.Comment = None
part_by_record line rest rec.Trailer = None

abbrev pub part_by_type : ℕ → List ℕ → Option Record → Option RowPart
part_by_type line text None = None
part_by_type line text (Some t) = part_by_record line (drop 2 text) t

-- what a line says of the rows
abbrev pub part_of : ℕ → List ℕ → Option RowPart
part_of line text = part_by_type line text (record_of text)

-- the rows with one line more: a position adds a row, a velocity completes the last one
abbrev pub rows_with : ℕ → List Row → List ℕ → List Row
rows_with line rows text = with_part rows (part_of line text)

-- the rows of the lines, after n lines with the rows given
abbrev pub rows_on : ℕ → List (List ℕ) → List Row → List Row
rows_on n [] rows = rows
rows_on n (l ∷ ls) rows = rows_on (n + 1) ls (rows_with (n + 1) rows l)

-- the rows of a text
abbrev pub rows_in : List ℕ → List Row
rows_in bs = rows_on 0 (text_of bs).lines []

-- the leap flag of the first of the rows; None where there is no row
abbrev pub first_flag_of : List Row → Option LeapFlag
first_flag_of [] = None
first_flag_of (r ∷ rs) = Some r.flag

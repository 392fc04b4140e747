use Rattle.std.specs.Prelude.{ℕ, cond, List, Some, None, Ok, Err, Option, Result}
use Rattle.refusal.specs.declared.Refusal.{Refusal}
use Rattle.records.specs.declared.record.Record.{Record}
use Rattle.records.specs.declared.record.Record.TheVariants as rec
use Rattle.records.specs.declared.field.Value.{Value}
use Rattle.records.specs.Types.{is_comment}
use Rattle.records.specs.Reads.{read_record}
use Rattle.records.specs.Builds.{origin_of, satellite_of, accuracy_of, offset_of, velocity_of}
use Rattle.reading.specs.declared.scan.Scan.{Scan}
use Rattle.reading.specs.declared.content.Content.{Content}
use Rattle.reading.specs.declared.content.Content.TheVariants.{Origin, Satellite, Accuracy, Offset, Rows}
use Rattle.reading.specs.declared.part.RowPart.{RowPart}
use Rattle.reading.specs.declared.part.RowPart.TheVariants as parts
use Rattle.reading.specs.Builds.{span_of, row_of}
use Rattle.reading.specs.Scans.{row_refusal, with_row, with_header}

-- what the values of a record say
abbrev pub content_of : Record → List Value → Option Content
content_of rec.H1 vs = Some (Origin (origin_of vs))
content_of rec.H2 vs = Some (Satellite (satellite_of vs) (span_of vs))
content_of rec.H3 vs = Some (Accuracy (accuracy_of vs))
content_of rec.H5 vs = Some (Offset (offset_of vs))
content_of rec.H9 vs = None
content_of rec.Position vs = Some (Rows (parts.Position (row_of vs)))
content_of rec.Velocity vs = Some (Rows (parts.Velocity (velocity_of vs)))
content_of rec.Comment vs = None
content_of rec.Trailer vs = None

abbrev pub content_if : Record → Result (List Value) Refusal → Result (Option Content) Refusal
content_if t (Ok vs) = Ok (content_of t vs)
content_if t (Err e) = Err e

-- what follows the record's type; a comment's text is not looked at
abbrev pub content_in : ℕ → Record → List ℕ → Result (Option Content) Refusal
content_in line t rest = cond (is_comment t) (Ok None) (content_if t (read_record line t rest))

-- only a row may be out of place among the rows
abbrev pub content_refusal : ℕ → Scan → Content → Result (Unit {0}) Refusal
content_refusal line s (Origin o) = Ok tt
content_refusal line s (Satellite a p) = Ok tt
content_refusal line s (Accuracy a) = Ok tt
content_refusal line s (Offset o) = Ok tt
content_refusal line s (Rows (parts.Position r)) = row_refusal line s r
content_refusal line s (Rows (parts.Velocity v)) = Ok tt

abbrev pub with_content : Scan → Content → Scan
with_content s (Origin o) = with_header s (record { origin = o; satellite = s.header.satellite; accuracy = s.header.accuracy; offset = s.header.offset }) s.span
with_content s (Satellite a p) = with_header s (record { origin = s.header.origin; satellite = a; accuracy = s.header.accuracy; offset = s.header.offset }) p
with_content s (Accuracy a) = with_header s (record { origin = s.header.origin; satellite = s.header.satellite; accuracy = Some a; offset = s.header.offset }) s.span
with_content s (Offset o) = with_header s (record { origin = s.header.origin; satellite = s.header.satellite; accuracy = s.header.accuracy; offset = Some o }) s.span
with_content s (Rows (parts.Position r)) = with_row s r
with_content s (Rows (parts.Velocity v)) = s

abbrev pub rows_part : Content → Option RowPart
rows_part (Origin o) = None
rows_part (Satellite a p) = None
rows_part (Accuracy a) = None
rows_part (Offset o) = None
rows_part (Rows p) = Some p

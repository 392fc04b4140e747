use Rattle.std.proofs.Common.{◌≡◌, ℕ, ◌-◌, List, length, take, drop, Some, None, Ok, Err, Option, Result, sym, refl, ap, ◌∙◌}
use Rattle.std.specs.Result.{result_ok}
use Rattle.std.proofs.lemmas.List.{take_rest}
use Rattle.refusal.specs.declared.Refusal.{Refusal}
use Rattle.records.specs.declared.record.Record.{Record}
use Rattle.records.specs.declared.record.Record.TheVariants as rec
use Rattle.records.specs.declared.field.Value.{Value}
use Rattle.records.specs.Types.{record_of}
use Rattle.records.specs.Reads.{read_record}
use Rattle.reading.specs.declared.content.Content.{Content}
use Rattle.reading.specs.declared.part.RowPart.{RowPart}
use Rattle.reading.specs.Contents.{content_if, content_in, rows_part}
use Rattle.reading.specs.Stores.{position_part, velocity_part, part_by_record, part_by_type, part_of}

-- what a reading says of the rows
abbrev pub said : Option (Option Content) → Option RowPart
said None = None
said (Some None) = None
said (Some (Some c)) = rows_part c

abbrev part_if : Record → Result (List Value) Refusal → Option RowPart
part_if rec.H1 r = None
part_if rec.H2 r = None
part_if rec.H3 r = None
part_if rec.H5 r = None
part_if rec.H9 r = None
part_if rec.Position r = position_part r
part_if rec.Velocity r = velocity_part r
part_if rec.Comment r = None
part_if rec.Trailer r = None

if_lem : (t : Record) (r : Result (List Value) Refusal) → part_if t r ≡ said (result_ok (content_if t r))
if_lem rec.H1 (Ok vs) = refl
if_lem rec.H1 (Err e) = refl
if_lem rec.H2 (Ok vs) = refl
if_lem rec.H2 (Err e) = refl
if_lem rec.H3 (Ok vs) = refl
if_lem rec.H3 (Err e) = refl
if_lem rec.H5 (Ok vs) = refl
if_lem rec.H5 (Err e) = refl
if_lem rec.H9 (Ok vs) = refl
if_lem rec.H9 (Err e) = refl
if_lem rec.Position (Ok vs) = refl
if_lem rec.Position (Err e) = refl
if_lem rec.Velocity (Ok vs) = refl
if_lem rec.Velocity (Err e) = refl
if_lem rec.Comment (Ok vs) = refl
if_lem rec.Comment (Err e) = refl
if_lem rec.Trailer (Ok vs) = refl
if_lem rec.Trailer (Err e) = refl

record_lem : (n : ℕ) (rest : List ℕ) (t : Record) → part_by_record n rest t ≡ said (result_ok (content_in n t rest))
record_lem n rest rec.H1 = if_lem rec.H1 (read_record n rec.H1 rest)
record_lem n rest rec.H2 = if_lem rec.H2 (read_record n rec.H2 rest)
record_lem n rest rec.H3 = if_lem rec.H3 (read_record n rec.H3 rest)
record_lem n rest rec.H5 = if_lem rec.H5 (read_record n rec.H5 rest)
record_lem n rest rec.H9 = if_lem rec.H9 (read_record n rec.H9 rest)
record_lem n rest rec.Position = if_lem rec.Position (read_record n rec.Position rest)
record_lem n rest rec.Velocity = if_lem rec.Velocity (read_record n rec.Velocity rest)
record_lem n rest rec.Comment = refl
record_lem n rest rec.Trailer = if_lem rec.Trailer (read_record n rec.Trailer rest)

-- a line of a known type, by what it says, as the checker reads `&line[2..]`
pub part_by : (n : ℕ) (text : List ℕ) (t : Record) (r : Result (Option Content) Refusal) → Some t ≡ record_of text → r ≡ content_in n t (take (length text - 2) (drop 2 text)) → part_of n text ≡ said (result_ok r)
part_by n text t r k c =
    ap (part_by_type n text) (sym k) ∙ record_lem n (drop 2 text) t ∙ ap (λ x. said (result_ok x)) (sym (c ∙ ap (content_in n t) (take_rest text 2)))

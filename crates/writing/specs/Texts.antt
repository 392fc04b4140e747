-- The text of a record, by its table of fields.
use Rattle.std.specs.Prelude.{ℕ, List, [], ◌∷◌, ◌++◌, ℤ, Some, None, Option}
use Rattle.model.specs.Names.{name_text}
use Rattle.numbers.specs.Texts.{text_of, right_text, two_digits}
use Rattle.records.specs.declared.field.Form.{Form}
use Rattle.records.specs.declared.field.Form.TheVariants as form
use Rattle.records.specs.declared.field.Layout.{Layout}
use Rattle.records.specs.declared.field.Layout.TheVariants.{Plain, TwoDigits, Right}
use Rattle.records.specs.declared.field.Field.{Field}
use Rattle.records.specs.declared.field.Value.{Value}
use Rattle.records.specs.declared.record.Record.{Record}
use Rattle.records.specs.declared.record.Record.TheVariants as rec
use Rattle.records.specs.Values.{number_in, name_in}
use Rattle.records.specs.Tables.{fields_of}

-- a number of d places, by its layout
abbrev pub number_text : Layout → ℕ → ℤ → List ℕ
number_text Plain d v = text_of v d
number_text TwoDigits d v = two_digits v
number_text (Right width) d v = right_text v d width

abbrev pub text_by : Form → Field → Value → List ℕ
text_by form.Cpf f v = 67 ∷ 80 ∷ 70 ∷ []
text_by form.Name f v = name_text (name_in v)
text_by form.Note f v = name_text (name_in v)
text_by form.Whole f v = number_text f.layout f.places (number_in v)
text_by form.DayOfMonth f v = number_text f.layout f.places (number_in v)
text_by form.Decimal f v = number_text f.layout f.places (number_in v)

-- a value in its field
unfoldable pub field_text : Field → Value → List ℕ
field_text f v = text_by f.form f v

-- the fields with their values, each after a space
unfoldable pub fields_text : List Field → List Value → List ℕ
fields_text [] vs = []
fields_text (f ∷ fs) [] = []
fields_text (f ∷ fs) (v ∷ vs) = (32 ∷ field_text f v) ++ fields_text fs vs

-- H1, H2, H3, H5, H9, 10, 20, 00 and 99
abbrev pub type_text : Record → List ℕ
type_text rec.H1 = 72 ∷ 49 ∷ []
type_text rec.H2 = 72 ∷ 50 ∷ []
type_text rec.H3 = 72 ∷ 51 ∷ []
type_text rec.H5 = 72 ∷ 53 ∷ []
type_text rec.H9 = 72 ∷ 57 ∷ []
type_text rec.Position = 49 ∷ 48 ∷ []
type_text rec.Velocity = 50 ∷ 48 ∷ []
type_text rec.Comment = 48 ∷ 48 ∷ []
type_text rec.Trailer = 57 ∷ 57 ∷ []

-- the line of a record
unfoldable pub record_text : Record → List Value → List ℕ
record_text t vs = type_text t ++ (fields_text (fields_of t) vs ++ (10 ∷ []))

-- a text that may be absent, and how long it is at most
abbrev pub text_if : {A : Type 0} → (A → List ℕ) → Option A → List ℕ
text_if text None = []
text_if text (Some x) = text x

abbrev pub most_if : {A : Type 0} → (A → ℕ) → Option A → ℕ
most_if most None = 0
most_if most (Some x) = most x

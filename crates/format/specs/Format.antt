-- The file format: which texts are files, and what header and rows they have.
use Rattle.std.specs.Prelude.{◌≡◌, ℕ, ◌+◌, ◌<◌, ◌≤◌, true, false, cond, ◌⊎◌, List, [], ◌∷◌, ◌++◌, length, ℤ, pos, ◌≤ℤ◌, Some, None, Option}
use Rattle.std.specs.List.{AllByRecursion}
use Rattle.calendar.specs.Instants.{moment}
use Rattle.model.specs.Names.{name_of}
use Rattle.model.specs.declared.LeapFlag.TheVariants.{NoLeap}
use Rattle.model.specs.declared.Row.{Row}
use Rattle.model.specs.declared.header.Header.{Header}
use Rattle.model.specs.declared.header.Accuracy.{Accuracy}
use Rattle.model.specs.declared.header.Offset.{Offset}
use Rattle.cells.specs.Cells.{cells_of}
use Rattle.lines.specs.Words.{words}
use Rattle.numbers.specs.Parts.{IsWhole, IsDecimal}
use Rattle.records.specs.declared.record.Record.{Record}
use Rattle.records.specs.declared.record.Record.TheVariants as rec
use Rattle.records.specs.declared.field.Form.{Form}
use Rattle.records.specs.declared.field.Form.TheVariants as form
use Rattle.records.specs.declared.field.Field.{Field}
use Rattle.records.specs.declared.field.Value.{Value}
use Rattle.records.specs.declared.field.Value.TheVariants.{Number, Text}
use Rattle.records.specs.Fields.{last_day}
use Rattle.records.specs.Tables.{fields_of}
use Rattle.records.specs.Types.{is_comment}
use Rattle.records.specs.Builds.{origin_of, satellite_of, accuracy_of, offset_of, velocity_of}
use Rattle.reading.specs.Builds.{row_of, span_of}
use Rattle.reading.specs.Ends.{span_agrees}
use Rattle.reading.specs.Stores.{with_velocity}

-- the lines, each followed by byte 10
abbrev pub unlines : List (List ℕ) → List ℕ
unlines [] = []
unlines (l ∷ ls) = l ++ (10 ∷ unlines ls)

-- a printable byte of ASCII
abbrev pub Printable : ℕ → Type 0
Printable b = (32 ≤ b) × (b ≤ 126)

pub record IsLine (l : List ℕ) : Type 0 where
  pub printable : AllByRecursion Printable l
  pub short : length l ≤ 128

pub record IsText (bs : List ℕ) (ls : List (List ℕ)) : Type 0 where
  pub bytes : bs ≡ unlines ls
  pub lines : AllByRecursion IsLine ls

-- the first two bytes of a record, its type: H1, H2, H3, H5, H9, 10, 20, 00 and 99
abbrev pub type_bytes : Record → List ℕ
type_bytes rec.H1 = 72 ∷ (49 ∷ [])
type_bytes rec.H2 = 72 ∷ (50 ∷ [])
type_bytes rec.H3 = 72 ∷ (51 ∷ [])
type_bytes rec.H5 = 72 ∷ (53 ∷ [])
type_bytes rec.H9 = 72 ∷ (57 ∷ [])
type_bytes rec.Position = 49 ∷ (48 ∷ [])
type_bytes rec.Velocity = 50 ∷ (48 ∷ [])
type_bytes rec.Comment = 48 ∷ (48 ∷ [])
type_bytes rec.Trailer = 57 ∷ (57 ∷ [])

-- A to Z, a to z, 0 to 9
abbrev pub NameByte : ℕ → Type 0
NameByte b = ((65 ≤ b) × (b ≤ 90)) ⊎ (((97 ≤ b) × (b ≤ 122)) ⊎ ((48 ≤ b) × (b ≤ 57)))

-- the bounds of a number; those of a text are for its length
abbrev pub Within : Field → ℤ → Type 0
Within f z = (f.least ≤ℤ z) × (z ≤ℤ f.greatest)

-- w is a word of a field of the form given, after words with the values before, and v is its value
abbrev pub IsWordBy : Form → Field → List ℕ → List Value → Value → Type 0
IsWordBy form.Cpf f w before v = (w ≡ 67 ∷ (80 ∷ (70 ∷ []))) × (v ≡ Text (name_of w))
IsWordBy form.Name f w before v = AllByRecursion NameByte w × Within f (pos (length w)) × (v ≡ Text (name_of w))
IsWordBy form.Note f w before v = Within f (pos (length w)) × (v ≡ Text (name_of w))
IsWordBy form.Whole f w before v = (z : ℤ) × IsWhole w z × Within f z × (v ≡ Number z)
IsWordBy form.DayOfMonth f w before v = (z : ℤ) × IsWhole w z × Within f z × (z ≤ℤ pos (last_day before)) × (v ≡ Number z)
IsWordBy form.Decimal f w before v = (z : ℤ) × IsDecimal w f.places z × Within f z × (v ≡ Number z)

abbrev pub IsWord : Field → List ℕ → List Value → Value → Type 0
IsWord f w before v = IsWordBy f.form f w before v

-- each word is one of its field, from the left; a day of the month depends on the year and the month before it
abbrev pub AreWords : List (List ℕ) → List Field → List Value → List Value → Type 0
AreWords [] fs before [] = Unit {0}
AreWords [] fs before (v ∷ vs) = ⊥
AreWords (w ∷ ws) [] before vs = ⊥
AreWords (w ∷ ws) (f ∷ fs) before [] = ⊥
AreWords (w ∷ ws) (f ∷ fs) before (v ∷ vs) = IsWord f w before v × AreWords ws fs (before ++ (v ∷ [])) vs

-- a word for each field; the last one of H1, the notes, may be absent
abbrev pub Count : Record → ℕ → Type 0
Count t n = (n ≡ length (fields_of t)) ⊎ ((t ≡ rec.H1) × (n + 1 ≡ length (fields_of t)))

-- nothing, or a space and more
abbrev pub Apart : List ℕ → Type 0
Apart rest = (rest ≡ []) ⊎ ((more : List ℕ) × (rest ≡ 32 ∷ more))

-- what follows the type of a record that is no comment
pub record Content (t : Record) (rest : List ℕ) (vs : List Value) : Type 0 where
  pub apart : Apart rest
  pub count : Count t (length (words rest))
  pub values : AreWords (words rest) (fields_of t) [] vs

-- what follows the type: anything in a comment, which has no values
abbrev pub ContentOf : Record → List ℕ → List Value → Type 0
ContentOf t rest vs = ((is_comment t ≡ true) × (vs ≡ [])) ⊎ ((is_comment t ≡ false) × Content t rest vs)

-- the line is a record of the type t with the values vs
pub record IsRecord (t : Record) (line : List ℕ) (vs : List Value) : Type 0 where
  pub rest : List ℕ
  pub bytes : line ≡ type_bytes t ++ rest
  pub content : ContentOf t rest vs

-- a record's type and its values
pub record Entry : Type 0 where
  pub type : Record
  pub values : List Value

abbrev pub entry : Record → List Value → Entry
entry t vs = record { type = t; values = vs }

abbrev pub AreRecords : List (List ℕ) → List Entry → Type 0
AreRecords [] [] = Unit {0}
AreRecords [] (e ∷ es) = ⊥
AreRecords (l ∷ ls) [] = ⊥
AreRecords (l ∷ ls) (e ∷ es) = IsRecord e.type l e.values × AreRecords ls es

abbrev pub without_comments : List Entry → List Entry
without_comments [] = []
without_comments (e ∷ es) = cond (is_comment e.type) (without_comments es) (e ∷ without_comments es)

-- a record that may be absent, before the others
abbrev pub maybe : Record → Option (List Value) → List Entry → List Entry
maybe t None es = es
maybe t (Some vs) es = entry t vs ∷ es

-- rows without velocities: a 10 each
abbrev pub positions : List (List Value) → List Entry
positions [] = []
positions (p ∷ ps) = entry rec.Position p ∷ positions ps

abbrev pub position_rows : List (List Value) → List Row
position_rows [] = []
position_rows (p ∷ ps) = row_of p ∷ position_rows ps

-- rows with velocities: a 10 and then a 20 each
pub record Both : Type 0 where
  pub position : List Value
  pub velocity : List Value

abbrev pub pairs : List Both → List Entry
pairs [] = []
pairs (p ∷ ps) = entry rec.Position p.position ∷ (entry rec.Velocity p.velocity ∷ pairs ps)

abbrev pub pair_rows : List Both → List Row
pair_rows [] = []
pair_rows (p ∷ ps) = with_velocity (row_of p.position) (velocity_of p.velocity) ∷ pair_rows ps

-- either no row has a velocity or every row has one
pub data AreRows (es : List Entry) (rows : List Row) : Type 0 where
  plain : (ps : List (List Value)) → es ≡ positions ps → rows ≡ position_rows ps → AreRows es rows
  moving : (ps : List Both) → es ≡ pairs ps → rows ≡ pair_rows ps → AreRows es rows

abbrev pub accuracy_if : Option (List Value) → Option Accuracy
accuracy_if None = None
accuracy_if (Some vs) = Some (accuracy_of vs)

abbrev pub offset_if : Option (List Value) → Option Offset
offset_if None = None
offset_if (Some vs) = Some (offset_of vs)

-- every later row comes later in time
abbrev pub Ascend : List Row → Type 0
Ascend [] = Unit {0}
Ascend (r ∷ rs) = AllByRecursion (λ s. moment r.at < moment s.at) rs × Ascend rs

-- after a row with a leap flag every later row has that flag
abbrev pub FlagsStay : List Row → Type 0
FlagsStay [] = Unit {0}
FlagsStay (r ∷ rs) = ((r.flag ≡ NoLeap) ⊎ AllByRecursion (λ s. s.flag ≡ r.flag) rs) × FlagsStay rs

-- there is a row, and H2 states start, end and interval of the rows
abbrev pub Stated : List Value → List Row → Type 0
Stated vs [] = ⊥
Stated vs (r ∷ rs) = span_agrees (span_of vs) (cells_of r rs) ≡ true

-- the bytes are a file with this header and these rows
pub record IsFile (bs : List ℕ) (h : Header) (rows : List Row) : Type 0 where
  -- at most 2,097,152 bytes, in lines
  pub short : length bs ≤ 2097152
  pub lines : List (List ℕ)
  pub text : IsText bs lines
  -- each line is a record
  pub entries : List Entry
  pub records : AreRecords lines entries
  -- the first line is H1 and the last is 99; between them, apart from comments, come H2, maybe H3, maybe H5, H9 and the rows; H9 and 99 have no values
  pub h1 : List Value
  pub h2 : List Value
  pub h3 : Option (List Value)
  pub h5 : Option (List Value)
  pub middle : List Entry
  pub ends : entries ≡ entry rec.H1 h1 ∷ (middle ++ (entry rec.Trailer [] ∷ []))
  pub body : List Entry
  pub order : without_comments middle ≡ entry rec.H2 h2 ∷ maybe rec.H3 h3 (maybe rec.H5 h5 (entry rec.H9 [] ∷ body))
  -- header and rows
  pub header : h ≡ record { origin = origin_of h1; satellite = satellite_of h2; accuracy = accuracy_if h3; offset = offset_if h5 }
  pub made : AreRows body rows
  pub ascend : Ascend rows
  pub flags : FlagsStay rows
  pub stated : Stated h2 rows

-- the bytes are a block with these rows
pub record IsBlock (bs : List ℕ) (rows : List Row) : Type 0 where
  -- at most 2,097,152 bytes, in lines
  pub short : length bs ≤ 2097152
  pub lines : List (List ℕ)
  pub text : IsText bs lines
  -- each line is a record; apart from comments they are those of the rows, of which there is at least one
  pub entries : List Entry
  pub records : AreRecords lines entries
  pub made : AreRows (without_comments entries) rows
  pub some : 1 ≤ length rows
  pub ascend : Ascend rows
  pub flags : FlagsStay rows

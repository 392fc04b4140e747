-- The values that a record's fields can have.
use Rattle.std.specs.Prelude.{◌≡◌, ℕ, true, List, [], ◌∷◌, ◌++◌, length, ℤ, pos, int_le}
use Rattle.std.specs.List.{AllByRecursion}
use Rattle.model.specs.Names.{name_of}
use Rattle.numbers.specs.Back.{Printable}
use Rattle.records.specs.declared.field.Form.{Form}
use Rattle.records.specs.declared.field.Form.TheVariants as form
use Rattle.records.specs.declared.field.Field.{Field}
use Rattle.records.specs.declared.field.Value.{Value}
use Rattle.records.specs.declared.field.Value.TheVariants.{Number, Text}
use Rattle.records.specs.declared.record.Record.{Record}
use Rattle.records.specs.Fields.{in_bounds, all_name_bytes, last_day}
use Rattle.records.specs.Reads.{count_fits}
use Rattle.records.specs.Tables.{fields_of}

-- the word CPF
abbrev pub cpf_word : List ℕ
cpf_word = 67 ∷ 80 ∷ 70 ∷ []

-- the name of a word of letters and digits, whose length lies in the field's bounds
pub record GoodName (f : Field) (v : Value) : Type 0 where
  pub word : List ℕ
  pub is : v ≡ Text (name_of word)
  pub long : in_bounds f (pos (length word)) ≡ true
  pub letters : all_name_bytes word ≡ true

-- the same of any printable bytes but spaces
pub record GoodNote (f : Field) (v : Value) : Type 0 where
  pub word : List ℕ
  pub is : v ≡ Text (name_of word)
  pub long : in_bounds f (pos (length word)) ≡ true
  pub printable : AllByRecursion Printable word

-- a number in the field's bounds
pub record GoodNumber (f : Field) (v : Value) : Type 0 where
  pub number : ℤ
  pub is : v ≡ Number number
  pub inside : in_bounds f number ≡ true

-- a day that its month has: year and month are the last two values before it
pub record GoodDay (f : Field) (before : List Value) (v : Value) : Type 0 where
  pub number : ℤ
  pub is : v ≡ Number number
  pub inside : in_bounds f number ≡ true
  pub exists : int_le number (pos (last_day before)) ≡ true

abbrev pub GoodBy : Form → Field → List Value → Value → Type 0
GoodBy form.Cpf f before v = v ≡ Text (name_of cpf_word)
GoodBy form.Name f before v = GoodName f v
GoodBy form.Note f before v = GoodNote f v
GoodBy form.Whole f before v = GoodNumber f v
GoodBy form.DayOfMonth f before v = GoodDay f before v
GoodBy form.Decimal f before v = GoodNumber f v

-- each value is good in its field, after the values before it
abbrev pub GoodOn : List Field → List Value → List Value → Type 0
GoodOn fs before [] = Unit {0}
GoodOn [] before (v ∷ vs) = ⊥
GoodOn (f ∷ fs) before (v ∷ vs) = GoodBy f.form f before v × GoodOn fs (before ++ (v ∷ [])) vs

-- the values of a record: one for each field, of H1 perhaps without the last
pub record GoodValues (t : Record) (vs : List Value) : Type 0 where
  pub count : count_fits t (length vs) ≡ true
  pub each : GoodOn (fields_of t) [] vs

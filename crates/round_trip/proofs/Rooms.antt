-- How many bytes the fields take, and what the tables of fields keep so that each is one word that is read back.
use Rattle.std.proofs.Common.{◌≡◌, ℕ, zero, suc, ◌+◌, ◌/◌, ◌^◌, ◌<◌, ◌≤◌, max, Bool, true, false, cond, ◌&&◌, eqb, ltb, leb, List, [], ◌∷◌, ℤ, pos, negsuc, nat_abs, refl, arith}
use lib.Signed.{le_z}
use Rattle.std.proofs.lemmas.Bool.{and_parts, leb-true, ltb-true}
use Rattle.records.specs.declared.field.Form.{Form}
use Rattle.records.specs.declared.field.Form.TheVariants as form
use Rattle.records.specs.declared.field.Layout.{Layout}
use Rattle.records.specs.declared.field.Layout.TheVariants.{Plain, TwoDigits, Right}
use Rattle.records.specs.declared.field.Field.{Field}
use Rattle.records.specs.declared.record.Record.{Record}
use Rattle.records.specs.declared.record.Record.TheVariants as rec
use Rattle.records.specs.Tables.{fields_of}

-- the greatest absolute value
abbrev pub largest : Field → ℕ
largest f = max (nat_abs f.least) (nat_abs f.greatest)

-- how many digits a number below ten to the k-th has
abbrev digits_from : ℕ → ℕ → ℕ
digits_from zero n = 0
digits_from (suc k) n = cond (ltb n 10) 1 (1 + digits_from k (n / 10))

-- the digits before the point
abbrev pub digits : Field → ℕ
digits f = digits_from 12 (largest f / 10 ^ f.places)

abbrev pub sign_room : ℤ → ℕ
sign_room (pos n) = 0
sign_room (negsuc n) = 1

abbrev pub point_room : ℕ → ℕ
point_room zero = 0
point_room (suc d) = 2 + d

abbrev pub text_room : Field → ℕ
text_room f = sign_room f.least + (digits f + point_room f.places)

abbrev pub number_room : Layout → Field → ℕ
number_room Plain f = text_room f
number_room TwoDigits f = 2
number_room (Right width) f = width

abbrev pub room_by : Form → Field → ℕ
room_by form.Cpf f = 3
room_by form.Name f = nat_abs f.greatest
room_by form.Note f = nat_abs f.greatest
room_by form.Whole f = number_room f.layout f
room_by form.DayOfMonth f = number_room f.layout f
room_by form.Decimal f = number_room f.layout f

-- each field after a space
abbrev pub room_of : List Field → ℕ
room_of [] = 0
room_of (f ∷ fs) = 1 + room_by f.form f + room_of fs

abbrev fine_text : Field → Bool
fine_text f = le_z (pos 1) f.least && le_z f.greatest (pos 10)

abbrev pub fine_number : Field → Bool
fine_number f = leb 1 (digits f) && (ltb (largest f) (10 ^ (digits f + f.places)) && (ltb (largest f) (10 ^ (12 + f.places)) && ltb (largest f) (2 ^ 64)))

abbrev pub fine_layout : Layout → Field → Bool
fine_layout Plain f = true
fine_layout TwoDigits f = le_z (pos 0) f.least && le_z f.greatest (pos 99)
fine_layout (Right width) f = leb (text_room f) width

-- two digits have no places
abbrev pub not_two : Layout → Bool
not_two Plain = true
not_two TwoDigits = false
not_two (Right width) = true

abbrev pub fine_by : Form → Field → Bool
fine_by form.Cpf f = true
fine_by form.Name f = fine_text f
fine_by form.Note f = fine_text f
fine_by form.Whole f = eqb f.places 0 && (fine_number f && fine_layout f.layout f)
fine_by form.DayOfMonth f = eqb f.places 0 && (fine_number f && fine_layout f.layout f)
fine_by form.Decimal f = not_two f.layout && (fine_number f && fine_layout f.layout f)

abbrev pub fine_fields : List Field → Bool
fine_fields [] = true
fine_fields (f ∷ fs) = fine_by f.form f && fine_fields fs

pub tables_fine : (t : Record) → fine_fields (fields_of t) ≡ true
tables_fine rec.H1 = refl
tables_fine rec.H2 = refl
tables_fine rec.H3 = refl
tables_fine rec.H5 = refl
tables_fine rec.H9 = refl
tables_fine rec.Position = refl
tables_fine rec.Velocity = refl
tables_fine rec.Comment = refl
tables_fine rec.Trailer = refl

-- how long a record's line is at most
abbrev pub longest : Record → ℕ
longest rec.H1 = 55
longest rec.H2 = 85
longest rec.H3 = 65
longest rec.H5 = 10
longest rec.H9 = 2
longest rec.Position = 81
longest rec.Velocity = 64
longest rec.Comment = 2
longest rec.Trailer = 2

pub tables_room : (t : Record) → 2 + room_of (fields_of t) ≡ longest t
tables_room rec.H1 = refl
tables_room rec.H2 = refl
tables_room rec.H3 = refl
tables_room rec.H5 = refl
tables_room rec.H9 = refl
tables_room rec.Position = refl
tables_room rec.Velocity = refl
tables_room rec.Comment = refl
tables_room rec.Trailer = refl

pub longest_le : (t : Record) → longest t ≤ 85
longest_le rec.H1 = omega arith
longest_le rec.H2 = omega arith
longest_le rec.H3 = omega arith
longest_le rec.H5 = omega arith
longest_le rec.H9 = omega arith
longest_le rec.Position = omega arith
longest_le rec.Velocity = omega arith
longest_le rec.Comment = omega arith
longest_le rec.Trailer = omega arith

-- what the test of a number's field says
pub record FineNumber (f : Field) : Type 0 where
  pub some : 1 ≤ digits f
  pub small : largest f < 10 ^ (digits f + f.places)
  pub twelve : largest f < 10 ^ (12 + f.places)
  pub bits : largest f < 2 ^ 64

pub fine_number_lem : (f : Field) → fine_number f ≡ true → FineNumber f
fine_number_lem f h =
    let p = and_parts (leb 1 (digits f)) _ h in
    let q = and_parts (ltb (largest f) (10 ^ (digits f + f.places))) _ p.1 in
    let r = and_parts (ltb (largest f) (10 ^ (12 + f.places))) _ q.1 in
    record { some = leb-true _ _ p.0; small = ltb-true _ _ q.0; twelve = ltb-true _ _ r.0; bits = ltb-true _ _ r.1 }

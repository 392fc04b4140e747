-- The text of a value in its field: its form, and how long it is.
use Rattle.std.proofs.Common.{◌≡◌, ℕ, zero, suc, ◌+◌, ◌-◌, ◌≤◌, min, max, ◌⊎◌, List, [], ◌∷◌, length, take, drop, ℤ, pos, negsuc, refl, ap, inl, inr, arith, w64, SFits}
use Rattle.std.proofs.lemmas.List.{length-append, length-replicate, length-take, length-drop}
use Rattle.model.specs.declared.name.Name.{Name}
use Rattle.model.specs.Names.{name_text}
use Rattle.numbers.specs.Texts.{text_of, right_text}
use Rattle.numbers.proofs.Lengths.{unsigned_le}
use Rattle.records.specs.declared.field.Form.TheVariants as form
use Rattle.records.specs.declared.field.Layout.{Layout}
use Rattle.records.specs.declared.field.Layout.TheVariants.{Plain, TwoDigits, Right}
use Rattle.records.specs.declared.field.Field.{Field}
use Rattle.records.specs.declared.field.Value.{Value}
use Rattle.records.specs.Values.{number_in, name_in}
use Rattle.writing.specs.Texts.{number_text, text_by, field_text}

-- a number of 64 bits has at most twenty digits, a sign and a point
pub text_le : (v : ℤ) (d : ℕ) → SFits w64 v → length (text_of v d) ≤ 22 + d
text_le (pos n) d h = omega (arith, unsigned_le n d (omega (arith, h.sfits)))
text_le (negsuc n) d h = omega (arith, unsigned_le (suc n) d (omega (arith, h.sfits)))

pub length_right : (v : ℤ) (d width : ℕ) → length (right_text v d width) ≡ max (length (text_of v d)) width
length_right v d width = simp (length-append, length-replicate) (omega arith)

-- but for two digits, a number is its text at the right of the bytes that it takes
pub number_room_lem : (how : Layout) (d : ℕ) (v : ℤ) → (how ≡ TwoDigits → ⊥) → length (text_of v d) ≤ length (number_text how d v)
number_room_lem Plain d v ne = omega arith
number_room_lem TwoDigits d v ne = absurd (ne refl)
number_room_lem (Right width) d v ne = omega (arith, length_right v d width)

-- at the right of a field that is one byte longer, a number has a space before it
pub number_spaced : (how : Layout) (d : ℕ) (v : ℤ) → (how ≡ TwoDigits → ⊥) → right_text v d (length (number_text how d v) + 1) ≡ 32 ∷ number_text how d v
number_spaced Plain d v ne =
    let e : length (text_of v d) + 1 - length (text_of v d) ≡ suc zero = omega arith in
    rw e
number_spaced TwoDigits d v ne = absurd (ne refl)
number_spaced (Right width) d v ne =
    let e : length (right_text v d width) + 1 - length (text_of v d) ≡ suc (width - length (text_of v d)) = omega (arith, length_right v d width) in
    rw e

-- how long a part of the output is
pub part_long : (out : List ℕ) (at n : ℕ) → at + n ≤ length out → length (take (at + n - at) (drop at out)) ≡ n
part_long out at n h = simp (length-take, length-drop) (omega arith)

pub name_le : (n : Name) → length (name_text n) ≤ 10
name_le n = omega (arith, length-take (min n.len 10) n.bytes)

-- the text of a field, by its form
module _ (f : Field) (v : Value) where
  pub field_cpf : f.form ≡ form.Cpf → field_text f v ≡ 67 ∷ 80 ∷ 70 ∷ []
  unfolding field_text
  field_cpf e = ap (λ k. text_by k f v) e

  pub field_name : (f.form ≡ form.Name) ⊎ (f.form ≡ form.Note) → field_text f v ≡ name_text (name_in v)
  unfolding field_text
  field_name (inl e) = ap (λ k. text_by k f v) e
  field_name (inr e) = ap (λ k. text_by k f v) e

  pub field_number : (f.form ≡ form.Whole) ⊎ ((f.form ≡ form.DayOfMonth) ⊎ (f.form ≡ form.Decimal)) → field_text f v ≡ number_text f.layout f.places (number_in v)
  unfolding field_text
  field_number (inl e) = ap (λ k. text_by k f v) e
  field_number (inr (inl e)) = ap (λ k. text_by k f v) e
  field_number (inr (inr e)) = ap (λ k. text_by k f v) e

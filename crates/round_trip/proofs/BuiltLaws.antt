-- What is built from good values has these values.
use Rattle.std.proofs.Common.{◌≡◌, ℕ, zero, suc, ◌+◌, ◌<◌, ◌≤◌, Bool, true, false, ◌&&◌, ◌||◌, eqb, ltb, leb, List, [], ◌∷◌, ◌++◌, length, get_or, take, drop, ℤ, pos, negsuc, nat_abs, sym, refl, ap, ◌∙◌, subst, ⊎_elim, append_assoc, append-nil, arith}
use lib.Signed.{le_z}
use Rattle.std.proofs.lemmas.List.{drop_more, drop_all}
use Rattle.std.proofs.lemmas.Bool.{and_parts, eqb-true, leb-true, or_cases, lt-ltb, le-ltb}
use Rattle.calendar.proofs.Moments.{in_calendar_lem, instant_of_pair}
use Rattle.model.specs.Names.{name_of}
use Rattle.records.specs.declared.field.Form.TheVariants as form
use Rattle.records.specs.declared.field.Layout.TheVariants.{Plain}
use Rattle.records.specs.declared.field.Field.{Field}
use Rattle.records.specs.declared.field.Value.{Value}
use Rattle.records.specs.declared.field.Value.TheVariants.{Number, Text}
use Rattle.records.specs.declared.record.Record.TheVariants as rec
use Rattle.records.specs.Fields.{in_bounds}
use Rattle.records.specs.Tables as table
use Rattle.records.specs.Values.{number_in, name_in, value_at, number_at, name_at}
use Rattle.records.specs.Builds.{origin_of, satellite_of, accuracy_of, offset_of, velocity_of}
use Rattle.model.specs.Flags.{flag_number, flag_of}
use Rattle.reading.specs.Builds.{row_of}
use Rattle.writing.specs.Values.{whole, origin_values, accuracy_values, offset_values, position_values, velocity_values}
use Rattle.round_trip.specs.Goods.{cpf_word, GoodName, GoodNote, GoodNumber, GoodDay, GoodBy, GoodOn, GoodValues}
use Rattle.round_trip.specs.Contents.{GoodSatellite, GoodAccuracy}

-- n values from the place i on
abbrev values_from : ℕ → ℕ → List Value → List Value
values_from i zero vs = []
values_from i (suc n) vs = value_at vs i ∷ values_from (i + 1) n vs

from_is : (i n : ℕ) (vs : List Value) → length vs ≡ i + n → values_from i n vs ≡ drop i vs
from_is i zero vs e = sym (drop_all i vs (omega arith))
from_is i (suc n) vs e = ap (λ l. value_at vs i ∷ l) (from_is (i + 1) n vs (omega arith)) ∙ sym (drop_more vs i (Number (pos 0)) (omega arith))

all_values : (n : ℕ) (vs : List Value) → length vs ≡ n → values_from 0 n vs ≡ vs
all_values n vs e = from_is 0 n vs (omega arith)

-- the field at a place
abbrev field_at : List Field → ℕ → Field
field_at fs i = get_or fs i (record { form = form.Cpf; places = 0; least = pos 0; greatest = pos 0; layout = Plain })

-- a value at its place
good_from : (fs : List Field) (before vs : List Value) (i : ℕ) → GoodOn fs before vs → i < length vs → GoodBy (field_at fs i).form (field_at fs i) (before ++ take i vs) (value_at vs i)
good_from fs before [] i g h = absurd (omega arith)
good_from [] before (v ∷ vs) i g h = absurd g
good_from (f ∷ fs) before (v ∷ vs) zero g h = subst (λ l. GoodBy f.form f l v) (sym (append-nil before)) g.0
good_from (f ∷ fs) before (v ∷ vs) (suc i) g h =
    subst (λ l. GoodBy (field_at fs i).form (field_at fs i) l (value_at vs i)) (append_assoc before (v ∷ []) (take i vs)) (good_from fs (before ++ (v ∷ [])) vs i g.1 (omega arith))

-- numbers and names are what is at their places
number_is : (f : Field) (v : Value) → GoodNumber f v → Number (number_in v) ≡ v
number_is f v g = let e = g.is in ap (λ x. Number (number_in x)) e ∙ sym e

day_is : (f : Field) (before : List Value) (v : Value) → GoodDay f before v → Number (number_in v) ≡ v
day_is f before v g = let e = g.is in ap (λ x. Number (number_in x)) e ∙ sym e

name_is : (f : Field) (v : Value) → GoodName f v → Text (name_in v) ≡ v
name_is f v g = let e = g.is in ap (λ x. Text (name_in x)) e ∙ sym e

note_is : (f : Field) (v : Value) → GoodNote f v → Text (name_in v) ≡ v
note_is f v g = let e = g.is in ap (λ x. Text (name_in x)) e ∙ sym e

number_inside : (f : Field) (v : Value) → GoodNumber f v → in_bounds f (number_in v) ≡ true
number_inside f v g = ap (λ x. in_bounds f (number_in x)) g.is ∙ g.inside

-- a number between natural bounds is one
natural : (low high : ℕ) (z : ℤ) → (le_z (pos low) z && le_z z (pos high)) ≡ true → (pos (nat_abs z) ≡ z) × (low ≤ nat_abs z) × (nat_abs z ≤ high)
natural low high (pos n) h = let p = and_parts (leb low n) (leb n high) h in (refl, leb-true low n p.0, leb-true n high p.1)
natural low high (negsuc n) h = (let z = h in cc)

only : (k : ℕ) (f : Field) (v : Value) → f.least ≡ pos k → f.greatest ≡ pos k → GoodNumber f v → whole k ≡ v
only k f v l h g =
    let n = natural k k g.number (sym (λ i. le_z (l i) g.number && le_z g.number (h i)) ∙ g.inside) in
    let e : nat_abs g.number ≡ k = let a = n.1 in let b = n.2 in omega arith in
    ap whole (sym e) ∙ ap (λ z. Number z) n.0 ∙ sym g.is

-- as many values as fields, but for the notes
count_is : (b : Bool) (n k : ℕ) → (eqb n k || (b && eqb (n + 1) k)) ≡ true → b ≡ false → n ≡ k
count_is true n k h e = (let z = e in cc)
count_is false n k h e = ⊎_elim (λ x. eqb-true n k x) (λ x. (let z = x in cc)) (or_cases (eqb n k) false h)

module _ (vs : List Value) (g : GoodValues rec.H2 vs) where
  pub built_satellite : GoodSatellite (satellite_of vs)
  built_satellite =
      let n = count_is false (length vs) 22 g.count refl in
      let at = λ (i : ℕ) (h : i < length vs). good_from table.h2 [] vs i g.each h in
      record {
        ilrs_number = number_inside table.ilrs_number (value_at vs 0) (at 0 (omega arith));
        sic = number_inside table.sic (value_at vs 1) (at 1 (omega arith));
        norad_number = number_inside table.norad_number (value_at vs 2) (at 2 (omega arith));
        tiv_compatible = number_inside table.one_digit (value_at vs 16) (at 16 (omega arith));
        target_class = number_inside table.one_digit (value_at vs 17) (at 17 (omega arith));
        frame = number_inside table.two_digits (value_at vs 18) (at 18 (omega arith));
        rotation = number_inside table.one_digit (value_at vs 19) (at 19 (omega arith));
        centre_of_mass = number_inside table.one_digit (value_at vs 20) (at 20 (omega arith));
        location = number_inside table.two_digits (value_at vs 21) (at 21 (omega arith));
      }

module _ (vs : List Value) (g : GoodValues rec.H3 vs) where
  pub built_accuracy : GoodAccuracy (accuracy_of vs)
  built_accuracy =
      let n = count_is false (length vs) 9 g.count refl in
      let at = λ (i : ℕ) (h : i < length vs). good_from table.h3 [] vs i g.each h in
      let e0 = number_is table.run_off (value_at vs 0) (at 0 (omega arith)) in
      let e1 = number_is table.run_off (value_at vs 1) (at 1 (omega arith)) in
      let e2 = number_is table.run_off (value_at vs 2) (at 2 (omega arith)) in
      let e3 = number_is table.run_off (value_at vs 3) (at 3 (omega arith)) in
      let e4 = number_is table.run_off (value_at vs 4) (at 4 (omega arith)) in
      let e5 = number_is table.run_off (value_at vs 5) (at 5 (omega arith)) in
      let e6 = number_is table.run_off (value_at vs 6) (at 6 (omega arith)) in
      let e7 = number_is table.run_off (value_at vs 7) (at 7 (omega arith)) in
      let e8 = number_is table.run_off (value_at vs 8) (at 8 (omega arith)) in
      let same : accuracy_values (accuracy_of vs) ≡ values_from 0 9 vs = λ i. e0 i ∷ e1 i ∷ e2 i ∷ e3 i ∷ e4 i ∷ e5 i ∷ e6 i ∷ e7 i ∷ e8 i ∷ [] in
      record { nine = refl; values = subst (GoodValues rec.H3) (sym (same ∙ all_values 9 vs n)) g }

module _ (vs : List Value) (g : GoodValues rec.H5 vs) where
  pub built_offset : GoodValues rec.H5 (offset_values (offset_of vs))
  built_offset =
      let n = count_is false (length vs) 1 g.count refl in
      let e0 = number_is table.offset (value_at vs 0) (good_from table.h5 [] vs 0 g.each (omega arith)) in
      let same : offset_values (offset_of vs) ≡ values_from 0 1 vs = λ i. e0 i ∷ [] in
      subst (GoodValues rec.H5) (sym (same ∙ all_values 1 vs n)) g

module _ (vs : List Value) (g : GoodValues rec.Velocity vs) where
  pub built_velocity : GoodValues rec.Velocity (velocity_values (velocity_of vs))
  built_velocity =
      let n = count_is false (length vs) 4 g.count refl in
      let at = λ (i : ℕ) (h : i < length vs). good_from table.velocity_record [] vs i g.each h in
      let e0 = only 0 table.direction (value_at vs 0) refl refl (at 0 (omega arith)) in
      let e1 = number_is table.velocity (value_at vs 1) (at 1 (omega arith)) in
      let e2 = number_is table.velocity (value_at vs 2) (at 2 (omega arith)) in
      let e3 = number_is table.velocity (value_at vs 3) (at 3 (omega arith)) in
      let same : velocity_values (velocity_of vs) ≡ values_from 0 4 vs = λ i. e0 i ∷ e1 i ∷ e2 i ∷ e3 i ∷ [] in
      subst (GoodValues rec.Velocity) (sym (same ∙ all_values 4 vs n)) g

flag_number_lem : (z : ℤ) → (le_z (negsuc 0) z && le_z z (pos 1)) ≡ true → flag_number (flag_of z) ≡ z
flag_number_lem (pos zero) h = refl
flag_number_lem (pos (suc zero)) h = refl
flag_number_lem (pos (suc (suc n))) h = absurd (omega (arith, leb-true (suc (suc n)) 1 h))
flag_number_lem (negsuc zero) h = refl
flag_number_lem (negsuc (suc n)) h = absurd (omega (arith, leb-true (suc n) 0 (and_parts (leb (suc n) 0) true h).0))

module _ (vs : List Value) (g : GoodValues rec.Position vs) where
  pub built_position : GoodValues rec.Position (position_values (row_of vs))
  built_position =
      let n = count_is false (length vs) 7 g.count refl in
      let at = λ (i : ℕ) (h : i < length vs). good_from table.position_record [] vs i g.each h in
      let e0 = only 0 table.direction (value_at vs 0) refl refl (at 0 (omega arith)) in
      let d1 = at 1 (omega arith) in
      let d2 = at 2 (omega arith) in
      let d3 = at 3 (omega arith) in
      let b1 = natural 40587 88068 (number_at vs 1) (number_inside table.day_number (value_at vs 1) d1) in
      let b2 = natural 0 86399999999 (number_at vs 2) (number_inside table.second_of_day (value_at vs 2) d2) in
      let pair = instant_of_pair (nat_abs (number_at vs 1)) (nat_abs (number_at vs 2)) (in_calendar_lem _ _ b1.1 b1.2 (omega (arith, b2.2))) in
      let e1 = ap whole pair.0 ∙ ap (λ z. Number z) b1.0 ∙ number_is table.day_number (value_at vs 1) d1 in
      let e2 = ap whole pair.1 ∙ ap (λ z. Number z) b2.0 ∙ number_is table.second_of_day (value_at vs 2) d2 in
      let e3 = ap (λ z. Number z) (flag_number_lem (number_at vs 3) (number_inside table.leap_flag (value_at vs 3) d3)) ∙ number_is table.leap_flag (value_at vs 3) d3 in
      let e4 = number_is table.position (value_at vs 4) (at 4 (omega arith)) in
      let e5 = number_is table.position (value_at vs 5) (at 5 (omega arith)) in
      let e6 = number_is table.position (value_at vs 6) (at 6 (omega arith)) in
      let same : position_values (row_of vs) ≡ values_from 0 7 vs = λ i. e0 i ∷ e1 i ∷ e2 i ∷ e3 i ∷ e4 i ∷ e5 i ∷ e6 i ∷ [] in
      subst (GoodValues rec.Position) (sym (same ∙ all_values 7 vs n)) g

-- H1 with its notes or without them
module _ (vs : List Value) (g : GoodValues rec.H1 vs) where
  origin_front : 10 ≤ length vs → ◌≡◌ {A = List Value}
      (Text (name_of cpf_word) ∷ whole 2 ∷ Text (name_at vs 2) ∷ Number (number_at vs 3) ∷ Number (number_at vs 4) ∷ Number (number_at vs 5) ∷ Number (number_at vs 6) ∷ Number (number_at vs 7) ∷ Number (number_at vs 8) ∷ Text (name_at vs 9) ∷ [])
      (values_from 0 10 vs)
  origin_front n =
      let at = λ (i : ℕ) (h : i < length vs). good_from table.h1 [] vs i g.each h in
      let e0 : value_at vs 0 ≡ Text (name_of cpf_word) = at 0 (omega arith) in
      let f0 = sym e0 in
      let e1 = only 2 table.version (value_at vs 1) refl refl (at 1 (omega arith)) in
      let e2 = name_is table.source (value_at vs 2) (at 2 (omega arith)) in
      let e3 = number_is table.year (value_at vs 3) (at 3 (omega arith)) in
      let e4 = number_is table.month (value_at vs 4) (at 4 (omega arith)) in
      let e5 = day_is table.day (take 5 vs) (value_at vs 5) (at 5 (omega arith)) in
      let e6 = number_is table.hour (value_at vs 6) (at 6 (omega arith)) in
      let e7 = number_is table.sequence (value_at vs 7) (at 7 (omega arith)) in
      let e8 = number_is table.sub_daily (value_at vs 8) (at 8 (omega arith)) in
      let e9 = name_is table.target (value_at vs 9) (at 9 (omega arith)) in
      λ i. f0 i ∷ e1 i ∷ e2 i ∷ e3 i ∷ e4 i ∷ e5 i ∷ e6 i ∷ e7 i ∷ e8 i ∷ e9 i ∷ []

  with_notes_lem : length vs ≡ 11 → origin_values (origin_of vs) ≡ vs
  with_notes_lem n =
      let t : ltb 10 (length vs) ≡ true = lt-ltb 10 (length vs) (omega arith) in
      let e = note_is table.notes (value_at vs 10) (good_from table.h1 [] vs 10 g.each (omega arith)) in
      rw t (ap (λ l. l ++ (Text (name_at vs 10) ∷ [])) (origin_front (omega arith)) ∙ ap (λ v. values_from 0 10 vs ++ (v ∷ [])) e ∙ all_values 11 vs n)

  without_notes : length vs ≡ 10 → origin_values (origin_of vs) ≡ vs
  without_notes n =
      let t : ltb 10 (length vs) ≡ false = le-ltb 10 (length vs) (omega arith) in
      rw t (origin_front (omega arith) ∙ all_values 10 vs n)

  pub built_origin : GoodValues rec.H1 (origin_values (origin_of vs))
  built_origin =
      let e : origin_values (origin_of vs) ≡ vs =
      ⊎_elim (λ x. with_notes_lem (eqb-true (length vs) 11 x)) (λ x. without_notes (let k = eqb-true (length vs + 1) 11 x in omega arith)) (or_cases (eqb (length vs) 11) (eqb (length vs + 1) 11) g.count) in
      subst (GoodValues rec.H1) (sym e) g

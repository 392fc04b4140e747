-- A value that its field can have is written as one word after spaces, and this word is read as the value.
use Rattle.std.proofs.Common.{◌≡◌, ℕ, zero, suc, ◌+◌, ◌-◌, ◌^◌, ◌<◌, ◌≤◌, min, max, Bool, true, ◌&&◌, eqb, leb, ◌⊎◌, List, [], ◌∷◌, ◌++◌, length, take, replicate, ℤ, pos, negsuc, nat_abs, ◌≤ℤ◌, Some, Ok, Option, sym, refl, ap, ◌∙◌, subst, inl, inr, ⊎_elim, arith}
use lib.Signed.{le_z}
use Rattle.std.specs.List.{AllByRecursion}
use Rattle.std.proofs.lemmas.List.{take_at, take_all}
use Rattle.std.proofs.lemmas.Int.{ints}
use Rattle.std.proofs.lemmas.Bool.{and_parts, and_from, eqb-true, leb-true, or_cases}
use Rattle.model.specs.Names.{name_text, name_of}
use Rattle.numbers.specs.Values.{whole_of, decimal_of}
use Rattle.numbers.specs.Texts.{text_of, two_digits}
use Rattle.numbers.specs.Back.{Printable, OneWord}
use Rattle.numbers.proofs.Back.{decimals_back, wholes_back, two_back}
use Rattle.numbers.proofs.Printed.{text_word_lem, two_digits_word, text_le_pos, text_le, whole_text_le_pos, whole_text_le, length_two_digits, length_right_text}
use Rattle.records.specs.declared.field.Form.{Form}
use Rattle.records.specs.declared.field.Form.TheVariants as form
use Rattle.records.specs.declared.field.Layout.{Layout}
use Rattle.records.specs.declared.field.Layout.TheVariants.{Plain, TwoDigits, Right}
use Rattle.records.specs.declared.field.Field.{Field}
use Rattle.records.specs.declared.field.Value.{Value}
use Rattle.records.specs.declared.field.Value.TheVariants.{Number}
use Rattle.records.specs.Fields.{is_name_byte, all_name_bytes, in_bounds, number_if, day_if, last_day, value_by}
use Rattle.writing.specs.Texts.{number_text, text_by}
use Rattle.round_trip.specs.Goods.{cpf_word, GoodBy}
use Rattle.round_trip.proofs.Rooms.{digits, sign_room, point_room, text_room, number_room, room_by, fine_number, fine_layout, not_two, fine_by, FineNumber, fine_number_lem}

-- the text of a value: spaces, and a word that is read as the value
pub record Written (g : Form) (f : Field) (before : List Value) (v : Value) : Type 0 where
  pub spaces : ℕ
  pub word : List ℕ
  pub text : text_by g f v ≡ replicate spaces 32 ++ word
  pub one : OneWord word
  pub value : value_by g f word before ≡ Ok v
  pub fits : length (text_by g f v) ≤ room_by g f

-- a short text is that of its name
name_back : (w : List ℕ) → length w ≤ 10 → name_text (name_of w) ≡ w
name_back w h =
    let m : min (length w) 10 ≡ length w = omega arith in
    let a : take (min (length w) 10) w ≡ w = rw m (take_all (length w) w (omega arith)) in
    let k : min (min (length w) 10) 10 ≡ length w = omega arith in
    rw (k, a) (take_at w (replicate (10 - min (length w) 10) 0) (length w) refl)

-- the bounds of a text are those of its length
name_bounds : (f : Field) (n : ℕ) → (le_z (pos 1) f.least && le_z f.greatest (pos 10)) ≡ true → in_bounds f (pos n) ≡ true → (1 ≤ n) × (n ≤ 10) × (n ≤ nat_abs f.greatest)
name_bounds f n fine h =
    let p = and_parts (le_z (pos 1) f.least) _ fine in
    let q = and_parts (le_z f.least (pos n)) _ h in
    by f.least f.greatest p.0 p.1 q.0 q.1
  where
    by : (a b : ℤ) → le_z (pos 1) a ≡ true → le_z b (pos 10) ≡ true → le_z a (pos n) ≡ true → le_z (pos n) b ≡ true → (1 ≤ n) × (n ≤ 10) × (n ≤ nat_abs b)
    by (negsuc a) b x y s t = (let z = x in cc)
    by (pos a) (negsuc b) x y s t = (let z = t in cc)
    by (pos a) (pos b) x y s t = let k = leb-true 1 a x in let l = leb-true a n s in let m = leb-true n b t in let o = leb-true b 10 y in (omega arith, omega arith, omega arith)

-- letters and digits are printable
printable_letter : (b : ℕ) → is_name_byte b ≡ true → Printable b
printable_letter b h =
    ⊎_elim (λ e. let p = and_parts (leb 65 b) (leb b 90) e in let k = leb-true 65 b p.0 in let l = leb-true b 90 p.1 in (omega arith, omega arith))
    (λ e. ⊎_elim (λ e. let p = and_parts (leb 97 b) (leb b 122) e in let k = leb-true 97 b p.0 in let l = leb-true b 122 p.1 in (omega arith, omega arith))
    (λ e. let p = and_parts (leb 48 b) (leb b 57) e in let k = leb-true 48 b p.0 in let l = leb-true b 57 p.1 in (omega arith, omega arith))
    (or_cases (leb 97 b && leb b 122) (leb 48 b && leb b 57) e))
    (or_cases (leb 65 b && leb b 90) _ h)

printable_letters : (w : List ℕ) → all_name_bytes w ≡ true → AllByRecursion Printable w
printable_letters [] h = tt
printable_letters (b ∷ w) h = let p = and_parts (is_name_byte b) (all_name_bytes w) h in (printable_letter b p.0, printable_letters w p.1)

-- a number within bounds is not larger than they are
abs_bounds : (a b z : ℤ) → le_z a z ≡ true → le_z z b ≡ true → nat_abs z ≤ max (nat_abs a) (nat_abs b)
abs_bounds a (pos b) (pos n) l h = omega (arith, leb-true n b h)
abs_bounds a (negsuc b) (pos n) l h = (let z = h in cc)
abs_bounds (pos a) b (negsuc n) l h = (let z = l in cc)
abs_bounds (negsuc a) b (negsuc n) l h = omega (arith, leb-true n a l)

from_pos : (n : ℕ) (z : ℤ) → le_z (pos n) z ≡ true → pos 0 ≤ℤ z
from_pos n (pos m) l = omega (arith, ints)
from_pos n (negsuc m) l = (let z = l in cc)

text_room_lem : (z : ℤ) (d k : ℕ) (low : ℤ) → 1 ≤ k → nat_abs z < 2 ^ 64 → nat_abs z < 10 ^ (k + d) → le_z low z ≡ true → length (text_of z d) ≤ sign_room low + (k + point_room d)
text_room_lem z zero k (pos n) some bits small l = let e : k + 0 ≡ k = omega arith in omega (arith, whole_text_le_pos z k some bits (rw e at small) (from_pos n z l))
text_room_lem z zero k (negsuc n) some bits small l = let e : k + 0 ≡ k = omega arith in omega (arith, whole_text_le z k some bits (rw e at small))
text_room_lem z (suc d) k (pos n) some bits small l = omega (arith, text_le_pos z (suc d) k some bits small (from_pos n z l))
text_room_lem z (suc d) k (negsuc n) some bits small l = omega (arith, text_le z (suc d) k some bits small)

-- a number in its layout
record NumberWritten (how : Layout) (f : Field) (z : ℤ) : Type 0 where
  spaces : ℕ
  word : List ℕ
  text : number_text how f.places z ≡ replicate spaces 32 ++ word
  one : OneWord word
  reads : (word ≡ text_of z f.places) ⊎ ((how ≡ TwoDigits) × (whole_of word ≡ Some z))
  fits : length (number_text how f.places z) ≤ number_room how f

-- what the bounds of a fine field say of a number
record Small (f : Field) (z : ℤ) : Type 0 where
  twelve : nat_abs z < 10 ^ (12 + f.places)
  bits : nat_abs z < 2 ^ 64
  room : length (text_of z f.places) ≤ text_room f

small : (f : Field) (z : ℤ) → FineNumber f → in_bounds f z ≡ true → Small f z
small f z fine h =
    let p = and_parts (le_z f.least z) (le_z z f.greatest) h in
    let m = abs_bounds f.least f.greatest z p.0 p.1 in
    let b : nat_abs z < 2 ^ 64 = omega (arith, fine.bits) in
    record { twelve = omega (arith, fine.twelve); bits = b; room = text_room_lem z f.places (digits f) f.least fine.some b (omega (arith, fine.small)) p.0 }

two_bounds : (a b z : ℤ) → le_z (pos 0) a ≡ true → le_z b (pos 99) ≡ true → le_z a z ≡ true → le_z z b ≡ true → (pos 0 ≤ℤ z) × (z ≤ℤ pos 99)
two_bounds (pos a) (pos b) (pos z) l h s t = let x = leb-true b 99 h in let y = leb-true z b t in (omega (arith, ints), omega (arith, ints))
two_bounds (negsuc a) b z l h s t = (let z = l in cc)
two_bounds (pos a) b (negsuc z) l h s t = (let z = s in cc)
two_bounds (pos a) (negsuc b) (pos z) l h s t = (let z = t in cc)

number_written : (how : Layout) (f : Field) (z : ℤ) → FineNumber f → fine_layout how f ≡ true → in_bounds f z ≡ true → NumberWritten how f z
number_written Plain f z fine lay h =
    let s = small f z fine h in
    record { spaces = 0; word = text_of z f.places; text = refl; one = text_word_lem z f.places s.bits; reads = inl refl; fits = s.room }
number_written TwoDigits f z fine lay h =
    let p = and_parts (le_z f.least z) (le_z z f.greatest) h in
    let q = and_parts (le_z (pos 0) f.least) (le_z f.greatest (pos 99)) lay in
    let b = two_bounds f.least f.greatest z q.0 q.1 p.0 p.1 in
    record { spaces = 0; word = two_digits z; text = refl; one = two_digits_word z; reads = inr (refl, two_back z b.0 b.1); fits = omega (arith, length_two_digits z) }
number_written (Right width) f z fine lay h =
    let s = small f z fine h in
    let r = s.room in
    let k = leb-true (text_room f) width lay in
    record {
      spaces = width - length (text_of z f.places);
      word = text_of z f.places;
      text = refl;
      one = text_word_lem z f.places s.bits;
      reads = inl refl;
      fits = omega (arith, length_right_text z f.places width (omega arith));
    }

whole_word_lem : (how : Layout) (f : Field) (z : ℤ) → f.places ≡ 0 → FineNumber f → in_bounds f z ≡ true → (n : NumberWritten how f z) → whole_of n.word ≡ Some z
whole_word_lem how f z none fine h n =
    let s : nat_abs z < 10 ^ 12 = subst (λ d. nat_abs z < 10 ^ (12 + d)) none (small f z fine h).twelve in
    ⊎_elim (λ e. ap whole_of (e ∙ ap (text_of z) none) ∙ wholes_back z s) (λ e. e.1) n.reads

not_two_lem : (how : Layout) → not_two how ≡ true → how ≡ TwoDigits → ⊥
not_two_lem how h e = (let z = sym (ap not_two e) ∙ h in cc)

decimal_word_lem : (how : Layout) (f : Field) (z : ℤ) → not_two how ≡ true → FineNumber f → in_bounds f z ≡ true → (n : NumberWritten how f z) → decimal_of n.word f.places ≡ Some z
decimal_word_lem how f z places fine h n =
    ⊎_elim (λ e. ap (λ w. decimal_of w f.places) e ∙ decimals_back z f.places (small f z fine h).twelve) (λ e. absurd (not_two_lem how places e.0)) n.reads

number_value : (f : Field) (o : Option ℤ) (z : ℤ) → o ≡ Some z → in_bounds f z ≡ true → number_if f o ≡ Ok (Number z)
number_value f o z e h = rw (e, h)

day_value : (f : Field) (last : ℕ) (o : Option ℤ) (z : ℤ) → o ≡ Some z → (in_bounds f z && le_z z (pos last)) ≡ true → day_if f last o ≡ Ok (Number z)
day_value f last o z e h = rw (e, h)

-- what the test of a field says, by its first part
fine_parts : (b : Bool) (f : Field) → (b && (fine_number f && fine_layout f.layout f)) ≡ true → (b ≡ true) × FineNumber f × (fine_layout f.layout f ≡ true)
fine_parts b f h =
    let p = and_parts b _ h in
    let q = and_parts (fine_number f) (fine_layout f.layout f) p.1 in
    (p.0, fine_number_lem f q.0, q.1)

text_written : (f : Field) (w : List ℕ) → (le_z (pos 1) f.least && le_z f.greatest (pos 10)) ≡ true → in_bounds f (pos (length w)) ≡ true → AllByRecursion Printable w → (name_text (name_of w) ≡ w) × OneWord w × (length (name_text (name_of w)) ≤ nat_abs f.greatest)
text_written f w fine h a =
    let b = name_bounds f (length w) fine h in
    let e = name_back w b.1 in
    (e, (a, b.0), omega (arith, ap length e, b.2))

pub written : (g : Form) (f : Field) (before : List Value) (v : Value) → fine_by g f ≡ true → GoodBy g f before v → Written g f before v
written form.Cpf f before v fine e =
    record { spaces = 0; word = cpf_word; text = refl; one = (((omega arith, omega arith), ((omega arith, omega arith), ((omega arith, omega arith), tt))), omega arith); value = ap Ok (sym e); fits = omega arith }
written form.Name f before v fine g =
    let w = g.word in
    let t = text_written f w fine g.long (printable_letters w g.letters) in
    let both = and_from _ _ g.long g.letters in
    rw g.is (record { spaces = 0; word = w; text = t.0; one = t.1; value = rw both; fits = t.2 })
written form.Note f before v fine g =
    let w = g.word in
    let t = text_written f w fine g.long g.printable in
    let long = g.long in
    rw g.is (record { spaces = 0; word = w; text = t.0; one = t.1; value = rw long; fits = t.2 })
written form.Whole f before v fine g =
    let z = g.number in
    let p = fine_parts (eqb f.places 0) f fine in
    let n = number_written f.layout f z p.1 p.2 g.inside in
    let w = whole_word_lem f.layout f z (eqb-true f.places 0 p.0) p.1 g.inside n in
    rw g.is (record { spaces = n.spaces; word = n.word; text = n.text; one = n.one; value = number_value f _ z w g.inside; fits = n.fits })
written form.DayOfMonth f before v fine g =
    let z = g.number in
    let p = fine_parts (eqb f.places 0) f fine in
    let n = number_written f.layout f z p.1 p.2 g.inside in
    let w = whole_word_lem f.layout f z (eqb-true f.places 0 p.0) p.1 g.inside n in
    rw g.is (record { spaces = n.spaces; word = n.word; text = n.text; one = n.one; value = day_value f (last_day before) _ z w (and_from _ _ g.inside g.exists); fits = n.fits })
written form.Decimal f before v fine g =
    let z = g.number in
    let p = fine_parts (not_two f.layout) f fine in
    let n = number_written f.layout f z p.1 p.2 g.inside in
    let w = decimal_word_lem f.layout f z p.0 p.1 g.inside n in
    rw g.is (record { spaces = n.spaces; word = n.word; text = n.text; one = n.one; value = number_value f _ z w g.inside; fits = n.fits })

-- A word is read just where it is a word of its field, and a record just where its words are.
use Rattle.std.proofs.Common.{◌≡◌, ℕ, ◌+◌, ◌≤◌, Bool, true, cond, ◌&&◌, ◌||◌, eqb, leb, List, [], ◌∷◌, ◌++◌, length, ℤ, pos, ◌≤ℤ◌, Some, None, Ok, Err, Option, Result, sym, refl, ap, ◌∙◌, inl, inr, ⊎_elim, append_assoc, append-nil, arith}
use lib.Signed.{le_z}
use Rattle.std.specs.List.{AllByRecursion}
use Rattle.std.proofs.lemmas.Bool.{eqb-true, leb-true, le-leb, and_parts, and_from, or_cases, or_left, or_right}
use Rattle.refusal.specs.declared.Refusal.{Refusal}
use Rattle.model.specs.Names.{name_of}
use Rattle.numbers.specs.Values.{whole_of, decimal_of}
use Rattle.numbers.proofs.Exact.{whole_exact, decimal_exact}
use Rattle.records.specs.declared.field.Form.{Form}
use Rattle.records.specs.declared.field.Form.TheVariants as form
use Rattle.records.specs.declared.field.Field.{Field}
use Rattle.records.specs.declared.field.Fault.{Fault}
use Rattle.records.specs.declared.field.Fault.TheVariants as fault
use Rattle.records.specs.declared.field.Value.{Value}
use Rattle.records.specs.declared.field.Value.TheVariants.{Number, Text}
use Rattle.records.specs.Fields.{is_name_byte, all_name_bytes, is_cpf, in_bounds, number_if, day_if, last_day, value_by, field_value}
use Rattle.records.specs.Reads.{onward, read_on}
use Rattle.format.specs.Format.{NameByte, Within, IsWordBy, IsWord, AreWords}
use Rattle.format.proofs.Common.{chosen, le_of, of_le}

between : (a b x : ℕ) → (leb a x && leb x b) ≡ true → (a ≤ x) × (x ≤ b)
between a b x h = let p = and_parts (leb a x) (leb x b) h in (leb-true a x p.0, leb-true x b p.1)

is_between : (a b x : ℕ) → (a ≤ x) × (x ≤ b) → (leb a x && leb x b) ≡ true
is_between a b x h = and_from (leb a x) (leb x b) (le-leb a x h.0) (le-leb x b h.1)

name_byte : (b : ℕ) → is_name_byte b ≡ true → NameByte b
name_byte b h =
    ⊎_elim (λ u. inl (between 65 90 b u)) (λ v. inr (⊎_elim (λ u. inl (between 97 122 b u)) (λ u. inr (between 48 57 b u)) (or_cases (leb 97 b && leb b 122) (leb 48 b && leb b 57) v)))
    (or_cases (leb 65 b && leb b 90) ((leb 97 b && leb b 122) || (leb 48 b && leb b 57)) h)

is_name_byte_lem : (b : ℕ) → NameByte b → is_name_byte b ≡ true
is_name_byte_lem b (inl u) = or_left (leb 65 b && leb b 90) ((leb 97 b && leb b 122) || (leb 48 b && leb b 57)) (is_between 65 90 b u)
is_name_byte_lem b (inr (inl u)) = or_right (leb 65 b && leb b 90) ((leb 97 b && leb b 122) || (leb 48 b && leb b 57)) (or_left (leb 97 b && leb b 122) (leb 48 b && leb b 57) (is_between 97 122 b u))
is_name_byte_lem b (inr (inr u)) = or_right (leb 65 b && leb b 90) ((leb 97 b && leb b 122) || (leb 48 b && leb b 57)) (or_right (leb 97 b && leb b 122) (leb 48 b && leb b 57) (is_between 48 57 b u))

name_bytes : (w : List ℕ) → all_name_bytes w ≡ true → AllByRecursion NameByte w
name_bytes [] h = tt
name_bytes (b ∷ w) h = let p = and_parts (is_name_byte b) (all_name_bytes w) h in (name_byte b p.0, name_bytes w p.1)

are_name_bytes : (w : List ℕ) → AllByRecursion NameByte w → all_name_bytes w ≡ true
are_name_bytes [] h = refl
are_name_bytes (b ∷ w) h = and_from (is_name_byte b) (all_name_bytes w) (is_name_byte_lem b h.0) (are_name_bytes w h.1)

cpf_bytes : (w : List ℕ) → is_cpf w ≡ true → w ≡ 67 ∷ (80 ∷ (70 ∷ []))
cpf_bytes [] h = cc
cpf_bytes (a ∷ []) h = cc
cpf_bytes (a ∷ (b ∷ [])) h = cc
cpf_bytes (a ∷ (b ∷ (c ∷ []))) h =
    let p = and_parts (eqb a 67) (eqb b 80 && eqb c 70) h in
    let q = and_parts (eqb b 80) (eqb c 70) p.1 in
    let x = eqb-true a 67 p.0 in
    let y = eqb-true b 80 q.0 in
    let z = eqb-true c 70 q.1 in
    λ i. x i ∷ (y i ∷ (z i ∷ []))
cpf_bytes (a ∷ (b ∷ (c ∷ (d ∷ w)))) h = cc

within : (f : Field) (z : ℤ) → in_bounds f z ≡ true → Within f z
within f z h = let p = and_parts (le_z f.least z) (le_z z f.greatest) h in (le_of f.least z p.0, le_of z f.greatest p.1)

is_within : (f : Field) (z : ℤ) → Within f z → in_bounds f z ≡ true
is_within f z h = and_from (le_z f.least z) (le_z z f.greatest) (of_le f.least z h.0) (of_le z f.greatest h.1)

number_from : (f : Field) (o : Option ℤ) (v : Value) → number_if f o ≡ Ok v → (z : ℤ) × (o ≡ Some z) × Within f z × (v ≡ Number z)
number_from f None v p = cc
number_from f (Some z) v p = let q = chosen (in_bounds f z) (Number z) v _ p in (z, refl, within f z q.0, sym q.1)

day_from : (f : Field) (last : ℕ) (o : Option ℤ) (v : Value) → day_if f last o ≡ Ok v → (z : ℤ) × (o ≡ Some z) × Within f z × (z ≤ℤ pos last) × (v ≡ Number z)
day_from f last None v p = cc
day_from f last (Some z) v p =
    let q = chosen (in_bounds f z && le_z z (pos last)) (Number z) v _ p in
    let r = and_parts (in_bounds f z) (le_z z (pos last)) q.0 in
    (z, refl, within f z r.0, le_of z (pos last) r.1, sym q.1)

word_from : (g : Form) (f : Field) (w : List ℕ) (acc : List Value) (v : Value) → value_by g f w acc ≡ Ok v → IsWordBy g f w acc v
word_from form.Cpf f w acc v p = let q = chosen (is_cpf w) (Text (name_of w)) v _ p in (cpf_bytes w q.0, sym q.1)
word_from form.Name f w acc v p =
    let q = chosen (in_bounds f (pos (length w)) && all_name_bytes w) (Text (name_of w)) v _ p in
    let r = and_parts (in_bounds f (pos (length w))) (all_name_bytes w) q.0 in
    (name_bytes w r.1, within f (pos (length w)) r.0, sym q.1)
word_from form.Note f w acc v p = let q = chosen (in_bounds f (pos (length w))) (Text (name_of w)) v _ p in (within f (pos (length w)) q.0, sym q.1)
word_from form.Whole f w acc v p = let q = number_from f (whole_of w) v p in (q.0, whole_exact.0 w q.0 q.1, q.2, q.3)
word_from form.DayOfMonth f w acc v p = let q = day_from f (last_day acc) (whole_of w) v p in (q.0, whole_exact.0 w q.0 q.1, q.2, q.3, q.4)
word_from form.Decimal f w acc v p = let q = number_from f (decimal_of w f.places) v p in (q.0, decimal_exact.0 w f.places q.0 q.1, q.2, q.3)

pub word_sound : (f : Field) (w : List ℕ) (acc : List Value) (v : Value) → field_value f w acc ≡ Ok v → IsWord f w acc v
word_sound f w acc v p = word_from f.form f w acc v p

-- a value that its test lets through
passed : (b : Bool) (x v : Value) (e : Fault) → b ≡ true → v ≡ x → ◌≡◌ {A = Result Value Fault} (cond b (Ok x) (Err e)) (Ok v)
passed b x v e h p = rw h (ap Ok (sym p))

word_to : (g : Form) (f : Field) (w : List ℕ) (acc : List Value) (v : Value) → IsWordBy g f w acc v → value_by g f w acc ≡ Ok v
word_to form.Cpf f w acc v h = passed (is_cpf w) (Text (name_of w)) v fault.Form (ap is_cpf h.0) h.1
word_to form.Name f w acc v h =
    passed (in_bounds f (pos (length w)) && all_name_bytes w) (Text (name_of w)) v fault.Form (and_from (in_bounds f (pos (length w))) (all_name_bytes w) (is_within f (pos (length w)) h.1) (are_name_bytes w h.0)) h.2
word_to form.Note f w acc v h = passed (in_bounds f (pos (length w))) (Text (name_of w)) v fault.Form (is_within f (pos (length w)) h.0) h.1
word_to form.Whole f w acc v h = ap (number_if f) (whole_exact.1 w h.0 h.1) ∙ passed (in_bounds f h.0) (Number h.0) v fault.Range (is_within f h.0 h.2) h.3
word_to form.DayOfMonth f w acc v h =
    ap (day_if f (last_day acc)) (whole_exact.1 w h.0 h.1)
    ∙ passed (in_bounds f h.0 && le_z h.0 (pos (last_day acc))) (Number h.0) v fault.Range (and_from (in_bounds f h.0) (le_z h.0 (pos (last_day acc))) (is_within f h.0 h.2) (of_le h.0 (pos (last_day acc)) h.3)) h.4
word_to form.Decimal f w acc v h = ap (number_if f) (decimal_exact.1 w f.places h.0 h.1) ∙ passed (in_bounds f h.0) (Number h.0) v fault.Range (is_within f h.0 h.2) h.3

pub word_complete : (f : Field) (w : List ℕ) (acc : List Value) (v : Value) → IsWord f w acc v → field_value f w acc ≡ Ok v
word_complete f w acc v h = word_to f.form f w acc v h

-- the values that reading adds
pub record Adds (ws : List (List ℕ)) (fs : List Field) (acc vs : List Value) : Type 0 where
  pub more : List Value
  pub all : vs ≡ acc ++ more
  pub are : AreWords ws fs acc more

no_more : (fs : List Field) (acc vs : List Value) → ◌≡◌ {A = Result (List Value) Refusal} (Ok acc) (Ok vs) → Adds [] fs acc vs
no_more fs acc vs p = let e : vs ≡ acc = cc in record { more = []; all = e ∙ sym (append-nil acc); are = tt }

on_value : (line : ℕ) (f : Field) (fs : List Field) (w : List ℕ) (ws : List (List ℕ)) (acc vs : List Value) (r : Result Value Fault) → field_value f w acc ≡ r
    → ((v : Value) → read_on line fs ws (acc ++ (v ∷ [])) ≡ Ok vs → Adds ws fs (acc ++ (v ∷ [])) vs)
    → onward r line (length acc + 2) (λ v. read_on line fs ws (acc ++ (v ∷ []))) ≡ Ok vs → Adds (w ∷ ws) (f ∷ fs) acc vs
on_value line f fs w ws acc vs (Err e) q next p = cc
on_value line f fs w ws acc vs (Ok v) q next p =
    let a = next v p in
    record { more = v ∷ a.more; all = a.all ∙ append_assoc acc (v ∷ []) a.more; are = (word_sound f w acc v q, a.are) }

pub words_sound : (line : ℕ) (fs : List Field) (ws : List (List ℕ)) (acc vs : List Value) → length ws ≤ length fs → read_on line fs ws acc ≡ Ok vs → Adds ws fs acc vs
words_sound line [] [] acc vs h p = no_more [] acc vs p
words_sound line [] (w ∷ ws) acc vs h p = absurd (omega arith)
words_sound line (f ∷ fs) [] acc vs h p = no_more (f ∷ fs) acc vs p
words_sound line (f ∷ fs) (w ∷ ws) acc vs h p = on_value line f fs w ws acc vs (field_value f w acc) refl (λ v q. words_sound line fs ws (acc ++ (v ∷ [])) vs (omega arith) q) p

pub words_complete : (line : ℕ) (ws : List (List ℕ)) (fs : List Field) (acc vs : List Value) → AreWords ws fs acc vs → read_on line fs ws acc ≡ Ok (acc ++ vs)
words_complete line [] [] acc [] h = ap Ok (sym (append-nil acc))
words_complete line [] (f ∷ fs) acc [] h = ap Ok (sym (append-nil acc))
words_complete line [] [] acc (v ∷ vs) h = absurd h
words_complete line [] (f ∷ fs) acc (v ∷ vs) h = absurd h
words_complete line (w ∷ ws) [] acc vs h = absurd h
words_complete line (w ∷ ws) (f ∷ fs) acc [] h = absurd h
words_complete line (w ∷ ws) (f ∷ fs) acc (v ∷ vs) h =
    ap (λ r. onward r line (length acc + 2) (λ v. read_on line fs ws (acc ++ (v ∷ [])))) (word_complete f w acc v h.0)
    ∙ words_complete line ws fs (acc ++ (v ∷ [])) vs h.1 ∙ ap Ok (append_assoc acc (v ∷ []) vs)

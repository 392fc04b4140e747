use Rattle.std.proofs.Common.{◌≡◌, ℕ, ◌+◌, ◌≤◌, min, Bool, true, false, cond, ◌&&◌, ◌||◌, eqb, leb, List, [], ◌∷◌, ◌++◌, length, ℤ, pos, negsuc, nat_abs, Some, None, Ok, Err, Option, Result, sym, refl, ap, ◌∙◌, append_assoc, append-nil, arith}
use lib.Signed.{le_z}
use Rattle.std.proofs.lemmas.Bool.{and_from, and_parts, eqb-true, leb-true}
use Rattle.calendar.specs.Instants.{in_calendar}
use Rattle.calendar.proofs.Moments.{in_calendar_lem}
use Rattle.refusal.specs.declared.Refusal.{Refusal}
use Rattle.refusal.specs.declared.Refusal.TheVariants.{WordCount}
use Rattle.lines.specs.Words.{words}
use Rattle.records.specs.declared.field.Form.{Form}
use Rattle.records.specs.declared.field.Form.TheVariants as form
use Rattle.records.specs.declared.field.Field.{Field}
use Rattle.records.specs.declared.field.Value.{Value}
use Rattle.records.specs.declared.field.Value.TheVariants.{Number, Text}
use Rattle.records.specs.declared.field.Fault.{Fault}
use Rattle.records.specs.declared.record.Record.{Record}
use Rattle.records.specs.declared.record.Record.TheVariants as rec
use Rattle.records.specs.Fields.{in_bounds, text_if, number_if, day_if, last_day, value_by, field_value}
use Rattle.records.specs.Reads.{onward, read_on, count_fits, read_record}
use Rattle.records.specs.Ranges.{is_text, is_in_bounds, in_field_by, in_field, in_fields}
use Rattle.records.specs.Tables.{direction, day_number, second_of_day, leap_flag, position, fields_of}
use Rattle.records.specs.Values.{number_in, value_at, number_at}

either_false : (b c : Bool) → (b || (false && c)) ≡ true → b ≡ true
either_false true c h = refl
either_false false c h = h

-- what a test lets through
passed : {X E : Type 0} (b : Bool) (r : Result X E) (v : X) (e : E) → cond b r (Err e) ≡ Ok v → (b ≡ true) × (r ≡ Ok v)
passed true r v e p = (refl, p)
passed false r v e p = cc

chosen : {X E : Type 0} (b : Bool) (x v : X) (e : E) → ◌≡◌ {A = Result X E} (cond b (Ok x) (Err e)) (Ok v) → (b ≡ true) × (x ≡ v)
chosen b x v e p = let q = passed b (Ok x) v e p in (q.0, cc)

text_in : (b : Bool) (w : List ℕ) (v : Value) → text_if b w ≡ Ok v → is_text v ≡ true
text_in b w v p = let q = chosen b _ v _ p in ap is_text (sym q.1)

number_in_lem : (f : Field) (o : Option ℤ) (v : Value) → number_if f o ≡ Ok v → is_in_bounds f v ≡ true
number_in_lem f None v p = cc
number_in_lem f (Some z) v p = let q = chosen (in_bounds f z) (Number z) v _ p in ap (is_in_bounds f) (sym q.1) ∙ q.0

day_in : (f : Field) (last : ℕ) (o : Option ℤ) (v : Value) → day_if f last o ≡ Ok v → is_in_bounds f v ≡ true
day_in f last None v p = cc
day_in f last (Some z) v p =
    let q = chosen (in_bounds f z && le_z z (pos last)) (Number z) v _ p in
    ap (is_in_bounds f) (sym q.1) ∙ (and_parts (in_bounds f z) (le_z z (pos last)) q.0).0

value_by_lem : (g : Form) (f : Field) (w : List ℕ) (acc : List Value) (v : Value) → value_by g f w acc ≡ Ok v → in_field_by g f v ≡ true
value_by_lem form.Cpf f w acc v p = text_in _ w v p
value_by_lem form.Name f w acc v p = text_in _ w v p
value_by_lem form.Note f w acc v p = text_in _ w v p
value_by_lem form.Whole f w acc v p = number_in_lem f _ v p
value_by_lem form.DayOfMonth f w acc v p = day_in f (last_day acc) _ v p
value_by_lem form.Decimal f w acc v p = number_in_lem f _ v p

-- the values that reading adds to those before: as many as there are fields and words, each in its field
pub record Added (fs : List Field) (ws : List (List ℕ)) (acc vs : List Value) : Type 0 where
  pub more : List Value
  pub all : vs ≡ acc ++ more
  pub inside : in_fields fs more ≡ true
  pub count : length more ≡ min (length fs) (length ws)

none_added : (fs : List Field) (ws : List (List ℕ)) (acc vs : List Value) → in_fields fs [] ≡ true → min (length fs) (length ws) ≡ 0 → ◌≡◌ {A = Result (List Value) Refusal} (Ok acc) (Ok vs) → Added fs ws acc vs
none_added fs ws acc vs h n p = let e : vs ≡ acc = cc in record { more = []; all = e ∙ sym (append-nil acc); inside = h; count = sym n }

by_value : (line : ℕ) (f : Field) (fs : List Field) (w : List ℕ) (ws : List (List ℕ)) (acc vs : List Value) (r : Result Value Fault) → r ≡ field_value f w acc
    → ((v : Value) → read_on line fs ws (acc ++ (v ∷ [])) ≡ Ok vs → Added fs ws (acc ++ (v ∷ [])) vs)
    → onward r line (length acc + 2) (λ v. read_on line fs ws (acc ++ (v ∷ []))) ≡ Ok vs → Added (f ∷ fs) (w ∷ ws) acc vs
by_value line f fs w ws acc vs (Err e) q next p = cc
by_value line f fs w ws acc vs (Ok v) q next p =
    let a = next v p in
    record {
      more = v ∷ a.more;
      all = a.all ∙ append_assoc acc (v ∷ []) a.more;
      inside = and_from (in_field f v) (in_fields fs a.more) (value_by_lem f.form f w acc v (sym q)) a.inside;
      count = let n = a.count in omega arith;
    }

pub read_adds : (line : ℕ) (fs : List Field) (ws : List (List ℕ)) (acc vs : List Value) → read_on line fs ws acc ≡ Ok vs → Added fs ws acc vs
read_adds line [] ws acc vs p = none_added [] ws acc vs refl (omega arith) p
read_adds line (f ∷ fs) [] acc vs p = none_added (f ∷ fs) [] acc vs refl (omega arith) p
read_adds line (f ∷ fs) (w ∷ ws) acc vs p = by_value line f fs w ws acc vs (field_value f w acc) refl (λ v q. read_adds line fs ws (acc ++ (v ∷ [])) vs q) p

-- a record that is read has its words, and its values are in their fields
pub record ReadRight (t : Record) (rest : List ℕ) (vs : List Value) : Type 0 where
  pub fits : count_fits t (length (words rest)) ≡ true
  pub inside : in_fields (fields_of t) vs ≡ true
  pub count : length vs ≡ min (length (fields_of t)) (length (words rest))

pub read_right : (line : ℕ) (t : Record) (rest : List ℕ) (vs : List Value) → read_record line t rest ≡ Ok vs → ReadRight t rest vs
read_right line t rest vs p =
    let q = passed (count_fits t (length (words rest))) (read_on line (fields_of t) (words rest) []) vs (WordCount line) p in
    let a = read_adds line (fields_of t) (words rest) [] vs q.1 in
    record { fits = q.0; inside = ap (in_fields (fields_of t)) a.all ∙ a.inside; count = ap length a.all ∙ a.count }

in_range : (low high : ℕ) (z : ℤ) → (le_z (pos low) z && le_z z (pos high)) ≡ true → (low ≤ nat_abs z) × (nat_abs z ≤ high)
in_range low high (pos n) h = let p = and_parts (leb low n) (leb n high) h in (leb-true low n p.0, leb-true n high p.1)
in_range low high (negsuc n) h = let p = and_parts (le_z (pos low) (negsuc n)) (le_z (negsuc n) (pos high)) h in let q : false ≡ true = p.0 in cc

bounded : (f : Field) (low high : ℕ) (v : Value) → f.least ≡ pos low → f.greatest ≡ pos high → is_in_bounds f v ≡ true → (low ≤ nat_abs (number_in v)) × (nat_abs (number_in v) ≤ high)
bounded f low high (Number z) l g h = in_range low high z (sym (λ i. le_z (l i) z && le_z z (g i)) ∙ h)
bounded f low high (Text n) l g h = cc

three : (a b c : Field) (fs : List Field) (vs : List Value) → 3 ≤ length vs → in_fields (a ∷ (b ∷ (c ∷ fs))) vs ≡ true → (in_field b (value_at vs 1) ≡ true) × (in_field c (value_at vs 2) ≡ true)
three a b c fs [] n h = absurd (omega arith)
three a b c fs (x ∷ []) n h = absurd (omega arith)
three a b c fs (x ∷ (y ∷ [])) n h = absurd (omega arith)
three a b c fs (x ∷ (y ∷ (z ∷ vs))) n h =
    let p = and_parts (in_field a x) (in_fields (b ∷ (c ∷ fs)) (y ∷ (z ∷ vs))) h in
    let q = and_parts (in_field b y) (in_fields (c ∷ fs) (z ∷ vs)) p.1 in
    let r = and_parts (in_field c z) (in_fields fs vs) q.1 in
    (q.0, r.0)

-- the fields of a position record keep its instant in the calendar
pub position_in_calendar : (line : ℕ) (rest : List ℕ) (vs : List Value) → read_record line rec.Position rest ≡ Ok vs → in_calendar (nat_abs (number_at vs 1)) (nat_abs (number_at vs 2)) ≡ true
position_in_calendar line rest vs p =
    let r = read_right line rec.Position rest vs p in
    let f = eqb-true (length (words rest)) 7 (either_false (eqb (length (words rest)) 7) (eqb (length (words rest) + 1) 7) r.fits) in
    let n = r.count in
    let t = three direction day_number second_of_day (leap_flag ∷ (position ∷ (position ∷ (position ∷ [])))) vs (omega arith) r.inside in
    let d = bounded day_number 40587 88068 (value_at vs 1) refl refl t.0 in
    let s = bounded second_of_day 0 86399999999 (value_at vs 2) refl refl t.1 in
    in_calendar_lem (nat_abs (number_at vs 1)) (nat_abs (number_at vs 2)) d.0 d.1 (omega arith)

-- What is read of a line is good.
use Rattle.std.proofs.Common.{◌≡◌, ℕ, ◌+◌, ◌<◌, ◌≤◌, min, Bool, true, false, cond, ◌&&◌, eqb, ltb, leb, List, [], ◌∷◌, ◌++◌, length, drop, ℤ, pos, Some, None, Ok, Err, Option, Result, sym, refl, ap, ◌∙◌, subst, ⊎_elim, append_assoc, append-nil, arith}
use lib.Signed.{le_z}
use Rattle.std.specs.List.{AllByRecursion}
use Rattle.std.proofs.ByRecursion.{All-push, All-drop}
use Rattle.std.proofs.lemmas.Bool.{and_parts, cases_lt, cond_both, eqb-true, eqb-false, leb-true, ltb-false, or_cases}
use Rattle.refusal.specs.declared.Refusal.{Refusal}
use Rattle.refusal.specs.declared.Refusal.TheVariants.{WordCount}
use Rattle.lines.specs.Texts.{Text as FileText, on_line, ends_by, forbidden, too_long, text_on, text_of}
use Rattle.lines.specs.Words.{words, stops, on_first}
use Rattle.model.specs.Names.{name_of}
use Rattle.numbers.specs.Back.{Printable}
use Rattle.numbers.specs.Values.{whole_of, decimal_of}
use Rattle.records.specs.declared.field.Form.{Form}
use Rattle.records.specs.declared.field.Form.TheVariants as form
use Rattle.records.specs.declared.field.Field.{Field}
use Rattle.records.specs.declared.field.Value.{Value}
use Rattle.records.specs.declared.field.Value.TheVariants.{Number, Text}
use Rattle.records.specs.declared.field.Fault.{Fault}
use Rattle.records.specs.declared.record.Record.{Record}
use Rattle.records.specs.Fields.{is_cpf, in_bounds, all_name_bytes, number_if, day_if, last_day, value_by, field_value}
use Rattle.records.specs.Reads.{onward, read_on, is_h1, count_fits, read_record}
use Rattle.records.specs.Tables.{fields_of}
use Rattle.round_trip.specs.Lines.{LineByte, IsLine}
use Rattle.round_trip.specs.Goods.{cpf_word, GoodNumber, GoodDay, GoodBy, GoodOn, GoodValues}

-- the lines of a text are lines
lines_on : (line bs : List ℕ) → AllByRecursion LineByte line → AllByRecursion IsLine (text_on line bs).lines
lines_on [] [] h = tt
lines_on (c ∷ line) [] h = tt
lines_on line (b ∷ bs) h =
    let P : FileText → Type 0 = λ t. AllByRecursion IsLine t.lines in
    cond_both (eqb b 10) _ _ P
    (λ _. cond_both (leb (length line) 128) (on_line line (text_on [] bs)) (ends_by too_long) P (λ e. (record { bytes = h; short = leb-true (length line) 128 e }, lines_on [] bs tt)) (λ _. tt))
    (λ _. cond_both (ltb b 32) (ends_by forbidden) _ P (λ _. tt)
    (λ low. cond_both (ltb 126 b) (ends_by forbidden) (text_on (line ++ (b ∷ [])) bs) P (λ _. tt)
    (λ high. lines_on (line ++ (b ∷ [])) bs (All-push LineByte line b h (ltb-false b 32 low, ltb-false 126 b high)))))

pub text_lines : (bs : List ℕ) → AllByRecursion IsLine (text_of bs).lines
text_lines bs = lines_on [] bs tt

-- the words of a line are printable
first_printable : (b : ℕ) (ws : List (List ℕ)) → Printable b → AllByRecursion (AllByRecursion Printable) ws → AllByRecursion (AllByRecursion Printable) (on_first b ws)
first_printable b [] p a = ((p, tt), tt)
first_printable b (w ∷ ws) p a = ((p, a.0), a.1)

words_printable : (l : List ℕ) → AllByRecursion LineByte l → AllByRecursion (AllByRecursion Printable) (words l)
words_printable [] a = tt
words_printable (b ∷ bs) a =
    let rest = words_printable bs a.1 in
    let P : List (List ℕ) → Type 0 = λ ws. AllByRecursion (AllByRecursion Printable) ws in
    cond_both (eqb b 32) (words bs) _ P (λ _. rest)
    (λ e. let ne = eqb-false b 32 e in
    let at = a.0.0 in
    let low : 33 ≤ b = ⊎_elim (λ (t : b < 33). absurd (ne (omega arith))) (λ k. k) (cases_lt b 33) in
    let p : Printable b = (low, a.0.1) in
    cond_both (stops bs) ((b ∷ []) ∷ words bs) (on_first b (words bs)) P (λ _. ((p, tt), rest)) (λ _. first_printable b (words bs) p rest))

-- what a test lets through
chosen : {X E : Type 0} (b : Bool) (x v : X) (e : E) → ◌≡◌ {A = Result X E} (cond b (Ok x) (Err e)) (Ok v) → (b ≡ true) × (x ≡ v)
chosen true x v e p = (refl, cc)
chosen false x v e p = cc

cpf_is : (w : List ℕ) → is_cpf w ≡ true → w ≡ cpf_word
cpf_is [] h = cc
cpf_is (a ∷ []) h = cc
cpf_is (a ∷ (b ∷ [])) h = cc
cpf_is (a ∷ (b ∷ (c ∷ []))) h =
    let p = and_parts (eqb a 67) _ h in
    let q = and_parts (eqb b 80) (eqb c 70) p.1 in
    let x = eqb-true a 67 p.0 in
    let y = eqb-true b 80 q.0 in
    let z = eqb-true c 70 q.1 in
    λ i. x i ∷ (y i ∷ (z i ∷ []))
cpf_is (a ∷ (b ∷ (c ∷ (d ∷ w)))) h = cc

number_good : (f : Field) (o : Option ℤ) (v : Value) → number_if f o ≡ Ok v → GoodNumber f v
number_good f None v p = cc
number_good f (Some z) v p = let q = chosen (in_bounds f z) (Number z) v _ p in record { number = z; is = sym q.1; inside = q.0 }

day_good : (f : Field) (before : List Value) (o : Option ℤ) (v : Value) → day_if f (last_day before) o ≡ Ok v → GoodDay f before v
day_good f before None v p = cc
day_good f before (Some z) v p =
    let q = chosen (in_bounds f z && le_z z (pos (last_day before))) (Number z) v _ p in
    let r = and_parts (in_bounds f z) (le_z z (pos (last_day before))) q.0 in
    record { number = z; is = sym q.1; inside = r.0; exists = r.1 }

value_good : (g : Form) (f : Field) (w : List ℕ) (before : List Value) (v : Value) → AllByRecursion Printable w → value_by g f w before ≡ Ok v → GoodBy g f before v
value_good form.Cpf f w before v a p = let q = chosen (is_cpf w) (Text (name_of w)) v _ p in sym q.1 ∙ ap (λ x. Text (name_of x)) (cpf_is w q.0)
value_good form.Name f w before v a p =
    let q = chosen (in_bounds f (pos (length w)) && all_name_bytes w) (Text (name_of w)) v _ p in
    let r = and_parts (in_bounds f (pos (length w))) (all_name_bytes w) q.0 in
    record { word = w; is = sym q.1; long = r.0; letters = r.1 }
value_good form.Note f w before v a p =
    let q = chosen (in_bounds f (pos (length w))) (Text (name_of w)) v _ p in
    record { word = w; is = sym q.1; long = q.0; printable = a }
value_good form.Whole f w before v a p = number_good f (whole_of w) v p
value_good form.DayOfMonth f w before v a p = day_good f before (whole_of w) v p
value_good form.Decimal f w before v a p = number_good f (decimal_of w f.places) v p

-- the values that reading adds to those before
record GoodMore (fs : List Field) (ws : List (List ℕ)) (before vs : List Value) : Type 0 where
  more : List Value
  all : vs ≡ before ++ more
  good : GoodOn fs before more
  count : length more ≡ min (length fs) (length ws)

none_more : (fs : List Field) (ws : List (List ℕ)) (before vs : List Value) → min (length fs) (length ws) ≡ 0 → ◌≡◌ {A = Result (List Value) Refusal} (Ok before) (Ok vs) → GoodMore fs ws before vs
none_more [] ws before vs n p = let e : vs ≡ before = cc in record { more = []; all = e ∙ sym (append-nil before); good = tt; count = sym n }
none_more (f ∷ fs) ws before vs n p = let e : vs ≡ before = cc in record { more = []; all = e ∙ sym (append-nil before); good = tt; count = sym n }

by_value : (line : ℕ) (f : Field) (fs : List Field) (w : List ℕ) (ws : List (List ℕ)) (before vs : List Value) (r : Result Value Fault) → r ≡ field_value f w before → AllByRecursion Printable w
    → ((v : Value) → read_on line fs ws (before ++ (v ∷ [])) ≡ Ok vs → GoodMore fs ws (before ++ (v ∷ [])) vs)
    → onward r line (length before + 2) (λ v. read_on line fs ws (before ++ (v ∷ []))) ≡ Ok vs → GoodMore (f ∷ fs) (w ∷ ws) before vs
by_value line f fs w ws before vs (Err e) q a next p = cc
by_value line f fs w ws before vs (Ok v) q a next p =
    let m = next v p in
    let n = m.count in
    record { more = v ∷ m.more; all = m.all ∙ append_assoc before (v ∷ []) m.more; good = (value_good f.form f w before v a (sym q), m.good); count = omega arith }

read_more : (line : ℕ) (fs : List Field) (ws : List (List ℕ)) (before vs : List Value) → AllByRecursion (AllByRecursion Printable) ws → read_on line fs ws before ≡ Ok vs → GoodMore fs ws before vs
read_more line [] ws before vs a p = none_more [] ws before vs (omega arith) p
read_more line (f ∷ fs) [] before vs a p = none_more (f ∷ fs) [] before vs (omega arith) p
read_more line (f ∷ fs) (w ∷ ws) before vs a p = by_value line f fs w ws before vs (field_value f w before) refl a.0 (λ v q. read_more line fs ws (before ++ (v ∷ [])) vs a.1 q) p

count_le : (t : Record) (n : ℕ) → count_fits t n ≡ true → n ≤ length (fields_of t)
count_le t n h =
    ⊎_elim (λ e. let k = eqb-true n (length (fields_of t)) e in omega arith)
    (λ e. let k = eqb-true (n + 1) (length (fields_of t)) (and_parts (is_h1 t) (eqb (n + 1) (length (fields_of t))) e).1 in omega arith)
    (or_cases (eqb n (length (fields_of t))) (is_h1 t && eqb (n + 1) (length (fields_of t))) h)

-- a record that is read has good values
pub read_good : (line : ℕ) (t : Record) (l : List ℕ) (vs : List Value) → IsLine l → read_record line t (drop 2 l) ≡ Ok vs → GoodValues t vs
read_good line t l vs g p =
    by (count_fits t (length (words (drop 2 l)))) refl p
  where
    by : (b : Bool) → b ≡ count_fits t (length (words (drop 2 l))) → cond b (read_on line (fields_of t) (words (drop 2 l)) []) (Err (WordCount line)) ≡ Ok vs → GoodValues t vs
    by false e h = cc
    by true e h =
        let m = read_more line (fields_of t) (words (drop 2 l)) [] vs (words_printable (drop 2 l) (All-drop LineByte 2 l g.bytes)) h in
        let k = count_le t (length (words (drop 2 l))) (sym e) in
        let n : length vs ≡ length (words (drop 2 l)) = ap length m.all ∙ omega (arith, m.count) in
        record { count = ap (count_fits t) n ∙ sym e; each = subst (λ l. GoodOn (fields_of t) [] l) (sym m.all) m.good }

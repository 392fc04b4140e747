-- A line is read as a record just where it is one.
use Rattle.std.proofs.Common.{◌≡◌, ℕ, ◌+◌, ◌≤◌, true, false, cond, ◌&&◌, ◌||◌, eqb, ◌⊎◌, List, [], ◌∷◌, ◌++◌, length, drop, Some, None, Ok, Err, Option, Result, sym, refl, ap, ◌∙◌, subst, inl, inr, ⊎_elim, append-nil, arith}
use Rattle.std.proofs.lemmas.Bool.{eqb-true, eq-eqb, and_parts, and_from, or_cases, or_left, or_right}
use Rattle.refusal.specs.declared.Refusal.{Refusal}
use Rattle.refusal.specs.declared.Refusal.TheVariants.{WordCount}
use Rattle.lines.specs.Words.{words}
use Rattle.records.specs.declared.record.Record.{Record}
use Rattle.records.specs.declared.record.Record.TheVariants as rec
use Rattle.records.specs.declared.field.Value.{Value}
use Rattle.records.specs.Types.{type_of, is_comment, followed_by, record_of}
use Rattle.records.specs.Tables.{fields_of}
use Rattle.records.specs.Reads.{read_on, is_h1, count_fits, read_record}
use Rattle.format.specs.Format.{type_bytes, Count, Apart, Content, ContentOf, IsRecord, AreWords}
use Rattle.numbers.proofs.Taken.{by_bool}
use Rattle.format.proofs.WordLaws.{words_sound, words_complete}

-- the bytes x and y of the type t were found, or a later test found the type
type_at : (a b x y : ℕ) (t found : Record) (other : Option Record) → type_bytes t ≡ x ∷ (y ∷ []) → cond (eqb a x && eqb b y) (Some t) other ≡ Some found
    → (other ≡ Some found → a ∷ (b ∷ []) ≡ type_bytes found) → a ∷ (b ∷ []) ≡ type_bytes found
type_at a b x y t found other is e next =
    by_bool (eqb a x && eqb b y)
    (λ h. let p = and_parts (eqb a x) (eqb b y) h in
    let q : Some t ≡ Some found = rw h at e in
    let r : t ≡ found = cc in
    let u = eqb-true a x p.0 in
    let v = eqb-true b y p.1 in
    (λ i. u i ∷ (v i ∷ [])) ∙ sym is ∙ ap type_bytes r)
    (λ h. next (rw h at e))

type_bytes_lem : (a b : ℕ) (t : Record) → type_of a b ≡ Some t → a ∷ (b ∷ []) ≡ type_bytes t
type_bytes_lem a b t e =
    type_at a b 72 49 rec.H1 t _ refl e (λ e. type_at a b 72 50 rec.H2 t _ refl e (λ e. type_at a b 72 51 rec.H3 t _ refl e (λ e. type_at a b 72 53 rec.H5 t _ refl e
    (λ e. type_at a b 72 57 rec.H9 t _ refl e (λ e. type_at a b 49 48 rec.Position t _ refl e (λ e. type_at a b 50 48 rec.Velocity t _ refl e
    (λ e. type_at a b 48 48 rec.Comment t _ refl e (λ e. type_at a b 57 57 rec.Trailer t None refl e (λ e. cc)))))))))

followed : (c : ℕ) (o : Option Record) (t : Record) → followed_by c o ≡ Some t → (o ≡ Some t) × ((eqb c 32 || is_comment t) ≡ true)
followed c None t e = cc
followed c (Some s) t e =
    by_bool (eqb c 32 || is_comment s)
    (λ h. let q : Some s ≡ Some t = rw h at e in let r : s ≡ t = cc in (ap Some r, subst (λ z. (eqb c 32 || is_comment z) ≡ true) r h))
    (λ h. let q : None ≡ Some t = rw h at e in cc)

-- what stands before the rest of the line is its type, and what follows may follow it
pub record Typed (t : Record) (line : List ℕ) : Type 0 where
  pub bytes : line ≡ type_bytes t ++ drop 2 line
  pub apart : (is_comment t ≡ true) ⊎ Apart (drop 2 line)

pub type_sound : (line : List ℕ) (t : Record) → record_of line ≡ Some t → Typed t line
type_sound [] t e = cc
type_sound (a ∷ []) t e = cc
type_sound (a ∷ (b ∷ [])) t e = record { bytes = type_bytes_lem a b t e ∙ sym (append-nil (type_bytes t)); apart = inr (inl refl) }
type_sound (a ∷ (b ∷ (c ∷ rest))) t e =
    let p = followed c (type_of a b) t e in
    record {
      bytes = ap (λ l. l ++ (c ∷ rest)) (type_bytes_lem a b t p.0);
      apart = ⊎_elim (λ h. inr (inr (rest, ap (λ z. z ∷ rest) (eqb-true c 32 h)))) (λ h. inl h) (or_cases (eqb c 32) (is_comment t) p.1);
    }

-- how a line that begins with a type's bytes is read
reads : (t : Record) (c : ℕ) (rest : List ℕ) → (record_of (type_bytes t ++ []) ≡ Some t) × (record_of (type_bytes t ++ (c ∷ rest)) ≡ followed_by c (Some t)) × (drop 2 (type_bytes t ++ rest) ≡ rest)
reads rec.H1 c rest = (refl, refl, refl)
reads rec.H2 c rest = (refl, refl, refl)
reads rec.H3 c rest = (refl, refl, refl)
reads rec.H5 c rest = (refl, refl, refl)
reads rec.H9 c rest = (refl, refl, refl)
reads rec.Position c rest = (refl, refl, refl)
reads rec.Velocity c rest = (refl, refl, refl)
reads rec.Comment c rest = (refl, refl, refl)
reads rec.Trailer c rest = (refl, refl, refl)

space_or : (t : Record) (c : ℕ) (rest : List ℕ) → (is_comment t ≡ true) ⊎ Apart (c ∷ rest) → (eqb c 32 || is_comment t) ≡ true
space_or t c rest (inl h) = or_right (eqb c 32) (is_comment t) h
space_or t c rest (inr (inl h)) = cc
space_or t c rest (inr (inr h)) = or_left (eqb c 32) (is_comment t) (let e = h.1 in eq-eqb c 32 (cc))

pub type_complete : (t : Record) (rest : List ℕ) → (is_comment t ≡ true) ⊎ Apart rest → record_of (type_bytes t ++ rest) ≡ Some t
type_complete t [] h = (reads t 0 []).0
type_complete t (c ∷ rest) h = (reads t c rest).1 ∙ rw (space_or t c rest h)

is_h1_lem : (t : Record) → is_h1 t ≡ true → t ≡ rec.H1
is_h1_lem rec.H1 h = refl
is_h1_lem rec.H2 h = cc
is_h1_lem rec.H3 h = cc
is_h1_lem rec.H5 h = cc
is_h1_lem rec.H9 h = cc
is_h1_lem rec.Position h = cc
is_h1_lem rec.Velocity h = cc
is_h1_lem rec.Comment h = cc
is_h1_lem rec.Trailer h = cc

count_sound : (t : Record) (n : ℕ) → count_fits t n ≡ true → Count t n
count_sound t n h =
    ⊎_elim (λ u. inl (eqb-true n (length (fields_of t)) u))
    (λ u. let p = and_parts (is_h1 t) (eqb (n + 1) (length (fields_of t))) u in inr (is_h1_lem t p.0, eqb-true (n + 1) (length (fields_of t)) p.1))
    (or_cases (eqb n (length (fields_of t))) (is_h1 t && eqb (n + 1) (length (fields_of t))) h)

count_complete : (t : Record) (n : ℕ) → Count t n → count_fits t n ≡ true
count_complete t n (inl h) = or_left (eqb n (length (fields_of t))) (is_h1 t && eqb (n + 1) (length (fields_of t))) (eq-eqb n (length (fields_of t)) h)
count_complete t n (inr h) =
    or_right (eqb n (length (fields_of t))) (is_h1 t && eqb (n + 1) (length (fields_of t)))
    (and_from (is_h1 t) (eqb (n + 1) (length (fields_of t))) (ap is_h1 h.0) (eq-eqb (n + 1) (length (fields_of t)) h.1))

count_most : (t : Record) (n : ℕ) → Count t n → n ≤ length (fields_of t)
count_most t n (inl h) = omega arith
count_most t n (inr h) = omega (arith, h.1)

pub content_sound : (n : ℕ) (t : Record) (rest : List ℕ) (vs : List Value) → Apart rest → read_record n t rest ≡ Ok vs → Content t rest vs
content_sound n t rest vs a p =
    by_bool (count_fits t (length (words rest)))
    (λ h. let q : read_on n (fields_of t) (words rest) [] ≡ Ok vs = rw h at p in
    let c = count_sound t (length (words rest)) h in
    let w = words_sound n (fields_of t) (words rest) [] vs (count_most t (length (words rest)) c) q in
    record { apart = a; count = c; values = subst (λ l. AreWords (words rest) (fields_of t) [] l) (sym w.all) w.are })
    (λ h. let q : ◌≡◌ {A = Result (List Value) Refusal} (Err (WordCount n)) (Ok vs) = rw h at p in cc)

pub content_complete : (n : ℕ) (t : Record) (rest : List ℕ) (vs : List Value) → Content t rest vs → read_record n t rest ≡ Ok vs
content_complete n t rest vs c = rw (count_complete t (length (words rest)) c.count) (words_complete n (words rest) (fields_of t) [] vs c.values)

-- what the reader finds in a line
pub record Reads (t : Record) (line : List ℕ) (vs : List Value) : Type 0 where
  pub type : record_of line ≡ Some t
  pub found : ((is_comment t ≡ true) × (vs ≡ [])) ⊎ ((is_comment t ≡ false) × ((n : ℕ) → read_record n t (drop 2 line) ≡ Ok vs))

apart_of : (t : Record) (rest : List ℕ) → is_comment t ≡ false → (is_comment t ≡ true) ⊎ Apart rest → Apart rest
apart_of t rest f (inl h) = (let e = sym f ∙ h in cc)
apart_of t rest f (inr h) = h

pub record_sound : (n : ℕ) (t : Record) (line : List ℕ) (vs : List Value) → record_of line ≡ Some t → is_comment t ≡ false → read_record n t (drop 2 line) ≡ Ok vs → IsRecord t line vs
record_sound n t line vs e f p =
    let y = type_sound line t e in
    record { rest = drop 2 line; bytes = y.bytes; content = inr (f, content_sound n t (drop 2 line) vs (apart_of t (drop 2 line) f y.apart) p) }

pub comment_sound : (t : Record) (line : List ℕ) → record_of line ≡ Some t → is_comment t ≡ true → IsRecord t line []
comment_sound t line e f = let y = type_sound line t e in record { rest = drop 2 line; bytes = y.bytes; content = inl (f, refl) }

apart_in : (t : Record) (rest : List ℕ) (vs : List Value) → ContentOf t rest vs → (is_comment t ≡ true) ⊎ Apart rest
apart_in t rest vs (inl h) = inl h.0
apart_in t rest vs (inr h) = inr h.1.apart

pub record_complete : (t : Record) (line : List ℕ) (vs : List Value) → IsRecord t line vs → Reads t line vs
record_complete t line vs r =
    let rest = r.rest in
    let d : drop 2 line ≡ rest = ap (drop 2) r.bytes ∙ (reads t 0 rest).2 in
    record {
      type = ap record_of r.bytes ∙ type_complete t rest (apart_in t rest vs r.content);
      found = ⊎_elim (λ h. inl h) (λ h. inr (h.0, λ n. ap (read_record n t) d ∙ content_complete n t rest vs h.1)) r.content;
    }

no_fields : (ws : List (List ℕ)) (vs : List Value) → AreWords ws [] [] vs → vs ≡ []
no_fields [] [] h = refl
no_fields [] (v ∷ vs) h = absurd h
no_fields (w ∷ ws) vs h = absurd h

-- a record without fields has no values
pub bare_record : (t : Record) (line : List ℕ) (vs : List Value) → IsRecord t line vs → fields_of t ≡ [] → vs ≡ []
bare_record t line vs r e =
    let ws = words r.rest in
    ⊎_elim (λ h. h.1) (λ h. no_fields ws vs (subst (λ fs. AreWords ws fs [] vs) e h.1.values)) r.content

-- The fields of a record one by one.
use Rattle.std.proofs.Common.{◌≡◌, ℕ, zero, suc, ◌+◌, ◌<◌, ◌≤◌, min, List, [], ◌∷◌, ◌++◌, length, get_or, take, Some, None, Option, sym, refl, ap, ◌∙◌, append_assoc, append-nil, add-one, arith}
use Rattle.records.specs.declared.field.Field.{Field}
use Rattle.records.specs.declared.field.Value.{Value}
use Rattle.records.specs.declared.record.Record.{Record}
use Rattle.records.specs.declared.record.Record.TheVariants as rec
use Rattle.records.specs.Tables.{fields_of}
use Rattle.writing.specs.Texts.{type_text, field_text, fields_text, record_text, most_if}

-- the fields so far, with the field and the value at i
fields_push : (fs : List Field) (vs : List Value) (i : ℕ) (f : Field) (v : Value) → i < length fs → i < length vs
    → fields_text (take (suc i) fs) (take (suc i) vs) ≡ fields_text (take i fs) (take i vs) ++ (32 ∷ field_text (get_or fs i f) (get_or vs i v))
unfolding fields_text
fields_push [] vs i f v h k = absurd (omega arith)
fields_push (g ∷ fs) [] i f v h k = absurd (omega arith)
fields_push (g ∷ fs) (w ∷ vs) zero f v h k = simp append-nil
fields_push (g ∷ fs) (w ∷ vs) (suc i) f v h k =
    ap (λ t. (32 ∷ field_text g w) ++ t) (fields_push fs vs i f v (omega arith) (omega arith))
    ∙ sym (append_assoc (32 ∷ field_text g w) (fields_text (take i fs) (take i vs)) (32 ∷ field_text (get_or fs i f) (get_or vs i v)))

pub fields_next : (fs : List Field) (vs : List Value) (i n : ℕ) (f : Field) (v : Value) → n ≡ i + 1 → i < length fs → i < length vs → f ≡ get_or fs i f → v ≡ get_or vs i v
    → fields_text (take i fs) (take i vs) ++ (32 ∷ field_text f v) ≡ fields_text (take n fs) (take n vs)
fields_next fs vs i n f v e h k p q =
    let before = fields_text (take i fs) (take i vs) in
    ap (λ g. before ++ (32 ∷ field_text g v)) p ∙ ap (λ w. before ++ (32 ∷ field_text (get_or fs i f) w)) q
    ∙ sym (fields_push fs vs i f v h k) ∙ ap (λ m. fields_text (take m fs) (take m vs)) (sym (e ∙ add-one i))

-- all of them
pub fields_all : (fs : List Field) (vs : List Value) (n : ℕ) → n ≡ min (length fs) (length vs) → fields_text (take n fs) (take n vs) ≡ fields_text fs vs
unfolding fields_text
fields_all [] vs zero e = refl
fields_all (f ∷ fs) [] zero e = refl
fields_all (f ∷ fs) (v ∷ vs) zero e = absurd (omega arith)
fields_all [] vs (suc n) e = absurd (omega arith)
fields_all (f ∷ fs) [] (suc n) e = absurd (omega arith)
fields_all (f ∷ fs) (v ∷ vs) (suc n) e = ap (λ t. (32 ∷ field_text f v) ++ t) (fields_all fs vs n (omega arith))

-- no record has more fields than H2
pub fields_few : (t : Record) → length (fields_of t) ≤ 22
fields_few rec.H1 = omega arith
fields_few rec.H2 = omega arith
fields_few rec.H3 = omega arith
fields_few rec.H5 = omega arith
fields_few rec.H9 = omega arith
fields_few rec.Position = omega arith
fields_few rec.Velocity = omega arith
fields_few rec.Comment = omega arith
fields_few rec.Trailer = omega arith

pub type_long : (t : Record) → length (type_text t) ≡ 2
type_long rec.H1 = refl
type_long rec.H2 = refl
type_long rec.H3 = refl
type_long rec.H5 = refl
type_long rec.H9 = refl
type_long rec.Position = refl
type_long rec.Velocity = refl
type_long rec.Comment = refl
type_long rec.Trailer = refl

pub most_if_le : {A : Type 0} (n : ℕ) (o : Option A) → most_if (λ _. n) o ≤ n
most_if_le n None = omega arith
most_if_le n (Some x) = omega arith

pub record_is : (t : Record) (vs : List Value) → record_text t vs ≡ type_text t ++ (fields_text (fields_of t) vs ++ (10 ∷ []))
unfolding record_text
record_is t vs = refl

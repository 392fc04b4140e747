-- A word is read just where it is a number, and then as that number.
use Rattle.std.proofs.Common.{◌≡◌, ℕ, ◌+◌, ◌-◌, ◌*◌, ◌^◌, List, [], ◌∷◌, length, ℤ, Some, None, sym, refl, ap, ◌∙◌, subst, inl, inr, zero-mul, arith}
use Rattle.std.proofs.lemmas.Bool.{leb-true, le-leb, cond-true}
use Rattle.numbers.specs.Shapes.{Shape, whole_word, decimal_word, text_word, word_of}
use Rattle.numbers.specs.Values.{digits_value, signed_value, takes_fraction, fraction_units, whole_in, number_of, decimal_of}
use Rattle.numbers.specs.Parts.{Parts, IsWhole, IsDecimal, WholeWordsExact, DecimalWordsExact}
use Rattle.numbers.proofs.Taken.{by_bool, Holds, word_holds, parts_whole, parts_decimal}

no_value : {P : Type 0} (v : ℤ) → None ≡ Some v → P
no_value v e = let z : ◌≡◌ {A = ℕ} 0 1 = cc in absurd (omega arith)

same_value : (x v : ℤ) → Some x ≡ Some v → v ≡ x
same_value x v e = cc

whole_from : (w : List ℕ) (v : ℤ) (s : Shape) → Holds w s → whole_in s ≡ Some v → IsWhole w v
whole_from w v (whole_word negative front) h e = record { negative = negative; front = front; parts = h; value = same_value _ v e }
whole_from w v (decimal_word negative front back) h e = no_value v e
whole_from w v (text_word t) h e = no_value v e

no_fraction : (n d : ℕ) → n + 0 * 10 ^ (d - 0) ≡ n
no_fraction n d = rw zero-mul (omega arith)

decimal_from : (w : List ℕ) (d : ℕ) (v : ℤ) (s : Shape) → Holds w s → number_of s d ≡ Some v → IsDecimal w d v
decimal_from w d v (whole_word negative front) h e =
    record {
      negative = negative;
      front = front;
      rest = [];
      back = [];
      parts = h;
      point = inl (refl, refl);
      digits = tt;
      fine = omega arith;
      value = same_value _ v e ∙ ap (signed_value negative) (sym (no_fraction (digits_value front * 10 ^ d) d));
    }
decimal_from w d v (decimal_word negative front back) h e =
    by_bool (takes_fraction back d)
    (λ t. record {
      negative = negative;
      front = front;
      rest = 46 ∷ back;
      back = back;
      parts = h.0;
      point = inr refl;
      digits = h.1;
      fine = leb-true (length back) d t;
      value = same_value (signed_value negative (digits_value front * 10 ^ d + fraction_units back d)) v (rw t at e);
    })
    (λ f. no_value v (rw f at e))
decimal_from w d v (text_word t) h e = no_value v e

pub whole_exact : WholeWordsExact
whole_exact = (
  (λ w v e. whole_from w v (word_of w) (word_holds w) e),
  (λ w v h. ap whole_in (sym (parts_whole w h.negative h.front h.parts)) ∙ ap (λ x. Some x) (sym h.value)),
)

decimal_to : (w : List ℕ) (d : ℕ) (v : ℤ) → IsDecimal w d v → decimal_of w d ≡ Some v
decimal_to w d v h =
    let negative = h.negative in
    let front = h.front in
    let back = h.back in
    let n = digits_value front * 10 ^ d in
    let P : List ℕ → Type 0 = Parts w negative front in
    let F : List ℕ → ℤ = λ l. signed_value negative (n + fraction_units l d) in
    elim h.point [
      | inl e ↦
          ap (λ s. number_of s d) (sym (parts_whole w negative front (subst P e.0 h.parts)))
          ∙ ap (λ x. Some x) (sym (h.value ∙ ap F e.1 ∙ ap (signed_value negative) (no_fraction n d)))
      | inr e ↦
          ap (λ s. number_of s d) (sym (parts_decimal w negative front back (subst P e h.parts) h.digits))
          ∙ cond-true (takes_fraction back d) (Some (F back)) None (le-leb (length back) d h.fine)
          ∙ ap (λ x. Some x) (sym h.value)
    ]

pub decimal_exact : DecimalWordsExact
decimal_exact = ((λ w d v e. decimal_from w d v (word_of w) (word_holds w) e), decimal_to)

-- How a word is taken apart, byte by byte.
use Rattle.std.proofs.Common.{not, refl, ◌≡◌, ℕ, ◌+◌, ◌-◌, ◌≤◌, Bool, true, false, cond, eqb, List, [], ◌∷◌, length, get_or, take, drop, ap, ◌∙◌, arith}
use Rattle.std.proofs.lemmas.List.{take_rest}
use Rattle.std.specs.Char.{is_ascii_digit}
use Rattle.std.specs.List.{position_or_len}
use Rattle.std.proofs.lemmas.List.Recursion.{is_position_or_len}
use Rattle.std.proofs.lemmas.Bool.{ne_eqb, le-leb, and_right}
use Rattle.numbers.specs.Shapes.{is_digit, digit_run, has_minus, without_sign, word_of, by_rest, text_word}

flip : (b : Bool) (n : ℕ) → cond b n 0 ≡ cond (not b) 0 n
flip true n = refl
flip false n = refl

-- the digits at the front end at the first byte that is none
pub run_is : (xs : List ℕ) → digit_run xs ≡ position_or_len (λ b. not (is_ascii_digit b)) xs
run_is = is_position_or_len digit_run (λ b. not (is_ascii_digit b)) refl (λ x xs. flip (is_digit x) (1 + digit_run xs))

-- as the checker reads `[first, rest @ ..]`
abbrev pub behind : List ℕ → List ℕ
behind xs = take (length xs - 1) (drop 1 xs)

-- the word once its sign and its first digits are split off
pub split : (w : List ℕ) (negative : Bool) (body front rest : List ℕ) (n : ℕ) → negative ≡ has_minus w → body ≡ without_sign w → n ≡ digit_run body → front ≡ take n body → rest ≡ drop n body → 1 ≤ n → n ≤ 12 → by_rest w negative front rest ≡ word_of w
split w negative body front rest n a b c d e low high =
    let k : n ≡ digit_run (without_sign w) = c ∙ ap digit_run b in
    rw (← b, ← a, ← c, le-leb 1 n low, le-leb n 12 high, d, e)

module _ (w : List ℕ) (negative : Bool) (front : List ℕ) where
  pub no_point : (rest : List ℕ) → 1 ≤ length rest → (get_or rest 0 0 ≡ 46 → ⊥) → text_word w ≡ by_rest w negative front rest
  no_point [] h e = absurd (omega arith)
  no_point (b ∷ back) h e = rw (ne_eqb b 46 e)

  pub no_digits : (rest : List ℕ) → 1 ≤ length rest → (digit_run (behind rest) ≡ length (behind rest) → ⊥) → text_word w ≡ by_rest w negative front rest
  no_digits [] h e = absurd (omega arith)
  no_digits (b ∷ back) h e =
      let t : behind (b ∷ back) ≡ back = take_rest (b ∷ back) 1 in
      let s : digit_run back ≡ length back → ⊥ = rw t at e in
      rw (and_right (eqb b 46) (eqb (digit_run back) (length back)) (ne_eqb (digit_run back) (length back) s))

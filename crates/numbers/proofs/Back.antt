-- What is written is read back.
use Rattle.std.proofs.Common.{◌≡◌, ℕ, zero, suc, ◌+◌, ◌-◌, ◌*◌, ◌/◌, ◌%◌, ◌^◌, ◌<◌, ◌≤◌, Bool, true, false, ◌⊎◌, List, [], ◌∷◌, ◌++◌, pos, negsuc, decimal, sym, refl, ap, ◌∙◌, inl, inr, append-nil, mul_assoc, div-lt_iff_lt-mul, pow-suc, mul-one, div-one, arith, pow-add}
use native.Mathlib.Nat.{div-div-eq-div-mul, one-le-pow, pow-succ'}
use Rattle.std.specs.List.{AllByRecursion}
use Rattle.std.proofs.lemmas.Fmt.{decimal_nonempty, digits_decimal, digits_value-decimal, length-decimal-le}
use Rattle.std.proofs.ByRecursion.{All-push}
use Rattle.std.proofs.lemmas.Int.{ints}
use Rattle.numbers.specs.Shapes.{Digit}
use Rattle.numbers.specs.Values.{digits_after, digits_value, signed_value}
use Rattle.numbers.specs.Parts.{SignText, Parts, IsWhole, IsDecimal}
use Rattle.numbers.specs.Texts.{last_digits, fraction_text, unsigned_text, text_of, two_digits}
use Rattle.numbers.specs.Back.{DecimalsReadBack, WholesReadBack, TwoDigitsReadBack}
use Rattle.numbers.proofs.Digits.{own}
use Rattle.numbers.proofs.Exact.{whole_exact, decimal_exact}
use Rattle.numbers.proofs.Lengths.{length_last}
use Rattle.numbers.proofs.Puts.{abs_le}

after_push : (m : ℕ) (ds : List ℕ) (c : ℕ) → digits_after m (ds ++ (c ∷ [])) ≡ digits_after m ds * 10 + (c - 48)
after_push m [] c = refl
after_push m (x ∷ ds) c = after_push (m * 10 + (x - 48)) ds c

pub digits_last : (d n : ℕ) → AllByRecursion Digit (last_digits d n)
digits_last zero n = tt
digits_last (suc d) n = All-push Digit (last_digits d (n / 10)) (48 + n % 10) (digits_last d (n / 10)) (omega arith, omega arith)

-- the number without its last digits, and these
split_last : (d n : ℕ) → n / 10 ^ d * 10 ^ d + digits_value (last_digits d n) ≡ n
split_last zero n = rw (div-one, mul-one) (omega arith)
split_last (suc d) n =
    let q : n / 10 ^ suc d ≡ n / 10 / 10 ^ d = ap (λ p. n / p) (pow-succ' 10 d) ∙ sym (div-div-eq-div-mul n 10 (10 ^ d)) in
    let p : n / 10 / 10 ^ d * 10 ^ suc d ≡ n / 10 / 10 ^ d * 10 ^ d * 10 = ap (λ m. n / 10 / 10 ^ d * m) (pow-suc 10 d) ∙ sym (mul_assoc (n / 10 / 10 ^ d) (10 ^ d) 10) in
    ap (λ m. m * 10 ^ suc d + digits_value (last_digits (suc d) n)) q
    ∙ omega (arith, p, after_push 0 (last_digits d (n / 10)) (48 + n % 10), split_last d (n / 10))

point : (d n : ℕ) → ((fraction_text d n ≡ []) × (last_digits d n ≡ [])) ⊎ (fraction_text d n ≡ 46 ∷ last_digits d n)
point zero n = inl (refl, refl)
point (suc d) n = inr refl

pub whole_below : (n d k : ℕ) → n < 10 ^ (k + d) → n / 10 ^ d < 10 ^ k
whole_below n d k h = (div-lt_iff_lt-mul (one-le-pow d 10 (omega arith))).1 (rw (← pow-add) h)

-- the digits of a number below ten to the 12th, after a sign
module _ (negative : Bool) (sign rest : List ℕ) (q : ℕ) (s : SignText negative sign) (small : q < 10 ^ 12) where
  number_parts : Parts (sign ++ (decimal q ++ rest)) negative (decimal q) rest
  number_parts =
      let h : q < 2 ^ 64 = omega arith in
      record { sign = sign; signed = s; digits = digits_decimal own q h; some = decimal_nonempty q h; few = length-decimal-le 12 q (omega arith) small h; all = refl }

  number_value : digits_value (decimal q) ≡ q
  number_value = digits_value-decimal own q (omega arith)

is_decimal : (negative : Bool) (sign : List ℕ) (n d : ℕ) → SignText negative sign → n < 10 ^ (12 + d) → IsDecimal (sign ++ unsigned_text n d) d (signed_value negative n)
is_decimal negative sign n d s h =
    let q = n / 10 ^ d in
    let small = whole_below n d 12 h in
    let len = length_last d n in
    let none : d - d ≡ 0 = omega arith in
    record {
      negative = negative;
      front = decimal q;
      rest = fraction_text d n;
      back = last_digits d n;
      parts = number_parts negative sign (fraction_text d n) q s small;
      point = point d n;
      digits = digits_last d n;
      fine = omega arith;
      value = ap (signed_value negative) (sym (rw (number_value negative sign [] q s small, len, none) (omega (arith, split_last d n))));
    }

pub decimals_back : DecimalsReadBack
decimals_back (pos n) d h = decimal_exact.1 (text_of (pos n) d) d (pos n) (is_decimal false [] n d (inl refl) h)
decimals_back (negsuc n) d h = decimal_exact.1 (text_of (negsuc n) d) d (negsuc n) (is_decimal true (45 ∷ []) (suc n) d refl h)

is_whole : (negative : Bool) (sign : List ℕ) (n : ℕ) → SignText negative sign → n < 10 ^ 12 → IsWhole (sign ++ unsigned_text n 0) (signed_value negative n)
is_whole negative sign n s h =
    let small : n / 1 < 10 ^ 12 = omega arith in
    record { negative = negative; front = decimal (n / 1); parts = number_parts negative sign [] (n / 1) s small; value = ap (signed_value negative) (sym (number_value negative sign [] (n / 1) s small ∙ div-one n)) }

pub wholes_back : WholesReadBack
wholes_back (pos n) h = whole_exact.1 (text_of (pos n) 0) (pos n) (is_whole false [] n (inl refl) h)
wholes_back (negsuc n) h = whole_exact.1 (text_of (negsuc n) 0) (negsuc n) (is_whole true (45 ∷ []) (suc n) refl h)

two : (n : ℕ) → n ≤ 99 → IsWhole (last_digits 2 n) (pos n)
two n h =
    let front = last_digits 2 n in
    record {
      negative = false;
      front = front;
      parts = record { sign = []; signed = inl refl; digits = digits_last 2 n; some = omega arith; few = omega arith; all = sym (append-nil front) };
      value = ap (λ m. pos m) (omega (arith, split_last 2 n));
    }

pub two_back : TwoDigitsReadBack
two_back (pos n) low high = whole_exact.1 (two_digits (pos n)) (pos n) (two n (abs_le (pos n) 99 low high))
two_back (negsuc n) low high = absurd (omega (arith, ints))

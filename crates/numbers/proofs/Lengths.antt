-- How long the text of a number is.
use Rattle.std.proofs.Common.{◌≡◌, ℕ, zero, suc, ◌+◌, ◌/◌, ◌%◌, ◌^◌, ◌<◌, ◌≤◌, length, decimal, refl, ◌∙◌, div-le_self, arith}
use Rattle.std.proofs.lemmas.Fmt.{decimal_nonempty, length-decimal-le}
use Rattle.std.proofs.lemmas.List.{length-append, length_push}
use Rattle.numbers.specs.Texts.{last_digits, fraction_text, unsigned_text}

pub length_last : (d n : ℕ) → length (last_digits d n) ≡ d
length_last zero n = refl
length_last (suc d) n = length_push (last_digits d (n / 10)) (48 + n % 10) ∙ omega (arith, length_last d (n / 10))

pub length_fraction : (d n : ℕ) → 0 < d → length (fraction_text d n) ≡ 1 + d
length_fraction zero n h = absurd (omega arith)
length_fraction (suc d) n h = omega (arith, length_last (suc d) n)

pub fraction_le : (d n : ℕ) → length (fraction_text d n) ≤ 1 + d
fraction_le zero n = omega arith
fraction_le (suc d) n = omega (arith, length_last (suc d) n)

pub length_unsigned : (n d : ℕ) → length (unsigned_text n d) ≡ length (decimal (n / 10 ^ d)) + length (fraction_text d n)
length_unsigned n d = length-append (decimal (n / 10 ^ d)) (fraction_text d n)

pub whole_le : (n d : ℕ) → n < 2 ^ 64 → n / 10 ^ d < 2 ^ 64
whole_le n d h = omega (arith, div-le_self n (10 ^ d))

-- the largest number of 64 bits has twenty digits
pub digits_le : (n : ℕ) → n < 2 ^ 64 → length (decimal n) ≤ 20
digits_le n h = length-decimal-le 20 n (omega arith) (omega arith) h

pub unsigned_le : (n d : ℕ) → n < 2 ^ 64 → length (unsigned_text n d) ≤ 21 + d
unsigned_le n d h = omega (arith, length_unsigned n d, fraction_le d n, digits_le (n / 10 ^ d) (whole_le n d h))

pub unsigned_some : (n d : ℕ) → n < 2 ^ 64 → 1 ≤ length (unsigned_text n d)
unsigned_some n d h = omega (arith, length_unsigned n d, decimal_nonempty (n / 10 ^ d) (whole_le n d h))

-- The text of a number is one word, and not too long for its field.
use Rattle.std.proofs.Common.{◌≡◌, ℕ, zero, suc, ◌+◌, ◌/◌, ◌^◌, ◌<◌, ◌≤◌, List, length, ℤ, pos, negsuc, nat_abs, ◌≤ℤ◌, decimal, arith}
use Rattle.std.specs.List.{AllByRecursion}
use Rattle.std.proofs.lemmas.Fmt.{digits_decimal, length-decimal-le}
use Rattle.std.proofs.ByRecursion.{All-append, All-weaker}
use Rattle.std.proofs.lemmas.List.{length-append, length-replicate}
use Rattle.std.proofs.lemmas.Int.{ints}
use Rattle.numbers.specs.Shapes.{Digit}
use Rattle.numbers.specs.Texts.{last_digits, fraction_text, unsigned_text, text_of, right_text, two_digits}
use Rattle.numbers.specs.Back.{Printable, OneWord, TextsAreWords}
use Rattle.numbers.proofs.Back.{digits_last, whole_below}
use Rattle.numbers.proofs.Digits.{own}
use Rattle.numbers.proofs.Lengths.{fraction_le, length_last, length_unsigned, unsigned_some, whole_le}

printable_digits : (ds : List ℕ) → AllByRecursion Digit ds → AllByRecursion Printable ds
printable_digits ds h = All-weaker Digit Printable (λ b k. (omega arith, omega arith)) ds h

printable_fraction : (d n : ℕ) → AllByRecursion Printable (fraction_text d n)
printable_fraction zero n = tt
printable_fraction (suc d) n = ((omega arith, omega arith), printable_digits (last_digits (suc d) n) (digits_last (suc d) n))

printable_unsigned : (n d : ℕ) → n < 2 ^ 64 → AllByRecursion Printable (unsigned_text n d)
printable_unsigned n d h =
    let q = n / 10 ^ d in
    All-append Printable (decimal q) (fraction_text d n) (printable_digits (decimal q) (digits_decimal own q (whole_le n d h))) (printable_fraction d n)

pub text_word_lem : (v : ℤ) (d : ℕ) → nat_abs v < 2 ^ 64 → OneWord (text_of v d)
text_word_lem (pos n) d h = (printable_unsigned n d h, unsigned_some n d h)
text_word_lem (negsuc n) d h = (((omega arith, omega arith), printable_unsigned (suc n) d h), omega arith)

pub two_digits_word : (v : ℤ) → OneWord (two_digits v)
two_digits_word v = (printable_digits (two_digits v) (digits_last 2 (nat_abs v)), omega arith)

pub texts_are_words : TextsAreWords
texts_are_words = (text_word_lem, two_digits_word)

-- at most k digits before the point
unsigned_le : (n d k : ℕ) → 1 ≤ k → n < 2 ^ 64 → n < 10 ^ (k + d) → length (unsigned_text n d) ≤ k + length (fraction_text d n)
unsigned_le n d k some h small =
    omega (arith, length_unsigned n d, length-decimal-le k (n / 10 ^ d) some (whole_below n d k small) (whole_le n d h))

pub text_le_pos : (v : ℤ) (d k : ℕ) → 1 ≤ k → nat_abs v < 2 ^ 64 → nat_abs v < 10 ^ (k + d) → pos 0 ≤ℤ v → length (text_of v d) ≤ k + (1 + d)
text_le_pos (pos n) d k some h small low = omega (arith, unsigned_le n d k some h small, fraction_le d n)
text_le_pos (negsuc n) d k some h small low = absurd (omega (arith, ints))

pub text_le : (v : ℤ) (d k : ℕ) → 1 ≤ k → nat_abs v < 2 ^ 64 → nat_abs v < 10 ^ (k + d) → length (text_of v d) ≤ 1 + k + (1 + d)
text_le (pos n) d k some h small = omega (arith, unsigned_le n d k some h small, fraction_le d n)
text_le (negsuc n) d k some h small = omega (arith, unsigned_le (suc n) d k some h small, fraction_le d (suc n))

-- without places there is no point
pub whole_text_le_pos : (v : ℤ) (k : ℕ) → 1 ≤ k → nat_abs v < 2 ^ 64 → nat_abs v < 10 ^ k → pos 0 ≤ℤ v → length (text_of v 0) ≤ k
whole_text_le_pos (pos n) k some h small low = let e : k ≡ k + 0 = omega arith in omega (arith, unsigned_le n 0 k some h (rw e at small))
whole_text_le_pos (negsuc n) k some h small low = absurd (omega (arith, ints))

pub whole_text_le : (v : ℤ) (k : ℕ) → 1 ≤ k → nat_abs v < 2 ^ 64 → nat_abs v < 10 ^ k → length (text_of v 0) ≤ 1 + k
whole_text_le (pos n) k some h small = let e : k ≡ k + 0 = omega arith in omega (arith, unsigned_le n 0 k some h (rw e at small))
whole_text_le (negsuc n) k some h small = let e : k ≡ k + 0 = omega arith in omega (arith, unsigned_le (suc n) 0 k some h (rw e at small))

pub length_two_digits : (v : ℤ) → length (two_digits v) ≡ 2
length_two_digits v = length_last 2 (nat_abs v)

pub length_right_text : (v : ℤ) (d width : ℕ) → length (text_of v d) ≤ width → length (right_text v d width) ≡ width
length_right_text v d width h = simp (length-append, length-replicate) (omega arith)

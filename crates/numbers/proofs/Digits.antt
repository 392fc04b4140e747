-- What digits write.
use Rattle.std.proofs.Common.{◌≡◌, ℕ, ◌+◌, ◌-◌, ◌*◌, ◌^◌, ◌<◌, ◌≤◌, List, length, get_or, drop, sym, ap, ◌∙◌, mul-le-mul_right, add-mul, mul-le-mul, arith, pow-add, rules}
use native.Mathlib.Nat.{one-le-pow}
use Rattle.std.specs.List.{AllByRecursion}
use Rattle.std.proofs.lemmas.List.{at_drop_more, at_drop_all}
use Rattle.std.proofs.lemmas.Str.Parse.{IsNumeralModel, numerals_by_fold}
use Rattle.numbers.specs.Shapes.{Digit}
use Rattle.numbers.specs.Values.{digits_after, digits_value}
use Rattle.numbers.proofs.Powers.{pow_more, pow_le}

pub own : IsNumeralModel (AllByRecursion Digit) digits_value
own = numerals_by_fold _ (search rules) digits_after (search rules)

pub after_more : (n : ℕ) (xs : List ℕ) (i : ℕ) → i < length xs → digits_after n (drop i xs) ≡ digits_after (n * 10 + (get_or xs i 0 - 48)) (drop (i + 1) xs)
after_more n xs i h = at_drop_more (digits_after n) xs i 0 h

pub after_all : (n : ℕ) (xs : List ℕ) (i : ℕ) → length xs ≤ i → digits_after n (drop i xs) ≡ n
after_all n xs i h = at_drop_all (digits_after n) xs i h

pub digit_more : (n i x : ℕ) → n < 10 ^ i → x < 10 → n * 10 + x < 10 ^ (i + 1)
digit_more n i x h small = omega (arith, pow_more i)

pub below : (n i k : ℕ) → n < 10 ^ i → i ≤ k → n < 10 ^ k
below n i k h le = omega (arith, pow_le i k le)

-- the value of digits after the point is less than one whole
pub fraction_short : (n k d : ℕ) → n < 10 ^ k → k ≤ d → n * 10 ^ (d - k) < 10 ^ d
fraction_short n k d h le =
    let e : k + (d - k) ≡ d = omega arith in
    let p : 10 ^ k * 10 ^ (d - k) ≡ 10 ^ d = sym (pow-add 10 k (d - k)) ∙ ap (λ m. 10 ^ m) e in
    let q : (n + 1) * 10 ^ (d - k) ≤ 10 ^ k * 10 ^ (d - k) = mul-le-mul_right (10 ^ (d - k)) (omega arith) in
    omega (arith, add-mul n 1 (10 ^ (d - k)), one-le-pow (d - k) 10 (omega arith))

-- twelve digits in units of the d-th place leave room for one whole more
pub units_short : (n d : ℕ) → n < 10 ^ 12 → d ≤ 6 → n * 10 ^ d + 10 ^ d ≤ 10 ^ 18
units_short n d h le =
    let k : n + 1 ≤ 10 ^ 12 = omega arith in
    let q : (n + 1) * 10 ^ d ≤ 10 ^ 12 * 10 ^ 6 = mul-le-mul k (pow_le d 6 le) in
    omega (arith, add-mul n 1 (10 ^ d))

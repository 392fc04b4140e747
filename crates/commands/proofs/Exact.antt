-- A word is read just where it is a number.
use Rattle.std.proofs.Common.{◌≡◌, ℕ, ◌≤◌, Bool, true, ◌&&◌, leb, List, [], length, ℤ, Some, None, Option, refl, append-nil, arith, rules}
use Rattle.std.specs.Str.{all_ascii_digits}
use Rattle.std.proofs.lemmas.Str.Parse.{IsNumeralModel, numerals_by_fold, tells_all_ascii_digits}
use Rattle.std.proofs.lemmas.Bool.{and_parts, le-leb, leb-true}
use Rattle.numbers.specs.Shapes.{has_minus, without_sign}
use Rattle.numbers.specs.Values.{digits_after, digits_value, signed_value}
use Rattle.numbers.proofs.Digits as digits
use Rattle.numbers.proofs.Taken.{by_bool, sign_split, strip}
use Rattle.commands.specs.Numerals.{is_numeral, numeral_of, most_of, with_sign, signed_of}
use Rattle.commands.specs.Words.{IsNumeral, IsSigned, NumeralsExact, SignedExact}

pub own : IsNumeralModel (λ ds. all_ascii_digits ds ≡ true) digits_value
own = numerals_by_fold _ tells_all_ascii_digits digits_after (search rules)

read : (most : ℕ) (w : List ℕ) (n : ℕ) → numeral_of most w ≡ Some n → IsNumeral w n × (n ≤ most)
read most w n e =
    by_bool (is_numeral w && leb (digits_value w) most)
    (λ t.
    let p = and_parts (is_numeral w) (leb (digits_value w) most) t in
    let q = and_parts (leb 1 (length w)) (all_ascii_digits w) p.0 in
    let same : numeral_of most w ≡ Some (digits_value w) = rw t in
    let value : n ≡ digits_value w = cc in
    (record { digits = (digits.own).from w (own.to w q.1); some = leb-true 1 (length w) q.0; value = value }, rw value (leb-true (digits_value w) most p.1)))
    (λ f.
    let none : numeral_of most w ≡ None = rw f in
    let z : ◌≡◌ {A = ℕ} 0 1 = cc in
    absurd (omega arith))

taken : (most : ℕ) (w : List ℕ) (n : ℕ) → IsNumeral w n → n ≤ most → numeral_of most w ≡ Some n
taken most w n k h = rw (le-leb 1 (length w) k.some, own.from w ((digits.own).to w k.digits), ← k.value, le-leb n most h)

pub numerals_exact : NumeralsExact
numerals_exact most w n = (read most w n, taken most w n)

-- a number with a sign is a sign and a number
unsign : (negative : Bool) (o : Option ℕ) (v : ℤ) → with_sign negative o ≡ Some v → (n : ℕ) × ((o ≡ Some n) × (v ≡ signed_value negative n))
unsign negative None v e = let z : ◌≡◌ {A = ℕ} 0 1 = cc in absurd (omega arith)
unsign negative (Some n) v e = (n, (refl, cc))

signed_read : (w : List ℕ) (v : ℤ) → signed_of w ≡ Some v → IsSigned w v
signed_read w v e =
    let s = sign_split w in
    let u = unsign (has_minus w) (numeral_of (most_of (has_minus w)) (without_sign w)) v e in
    let k = read (most_of (has_minus w)) (without_sign w) u.0 u.1.0 in
    record { negative = has_minus w; sign = s.0; signed = s.1.0; digits = without_sign w; all = s.1.1; size = u.0; numeral = k.0; fits = k.1; value = u.1.1 }

signed_taken : (w : List ℕ) (v : ℤ) → IsSigned w v → signed_of w ≡ Some v
signed_taken w v k =
    let p = strip k.negative k.sign k.digits [] k.signed k.numeral.digits k.numeral.some in
    let q = rw (append-nil k.digits, ← k.all) at p in
    rw (← q.0, ← q.1, taken (most_of k.negative) k.digits k.size k.numeral k.fits, k.value)

pub signed_exact : SignedExact
signed_exact w v = (signed_read w v, signed_taken w v)

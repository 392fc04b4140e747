-- The steps of writing a text from its end.
use Rattle.std.proofs.Common.{◌*◌, ⊎_elim, append-nil, ◌≡◌, ℕ, zero, suc, ◌+◌, ◌-◌, ◌/◌, ◌%◌, ◌^◌, ◌<◌, ◌≤◌, max, List, [], ◌∷◌, ◌++◌, length, drop, set, ℤ, pos, negsuc, nat_abs, ◌≤ℤ◌, ◌<ℤ◌, decimal, sym, refl, ap, ◌∙◌, append_assoc, div-one, arith}
use native.Mathlib.Nat.{div-div-eq-div-mul, pow-succ', one-le-pow}
use Rattle.std.proofs.lemmas.Fmt.{decimal_step, decimal_digit, decimal_nonempty}
use Rattle.std.proofs.lemmas.List.{drop_all, drop-set, length_push}
use Rattle.std.proofs.lemmas.Bool.{cases_lt}
use borrow.Rule.Slice.PartMut.{put_mid}
use Rattle.std.proofs.lemmas.Int.{ints}
use Rattle.numbers.specs.Texts.{last_digits, unsigned_text, text_of}
use Rattle.numbers.proofs.Lengths.{length_unsigned, length_fraction, whole_le}

-- one byte written before what stands from p on
pub back : (xs : List ℕ) (p x : ℕ) → 0 < p → p ≤ length xs → drop (p - 1) (set xs (p - 1) x) ≡ x ∷ drop p xs
back xs p x h k = let e : p - 1 + 1 ≡ p = omega arith in drop-set xs (p - 1) x (omega arith) ∙ ap (λ i. x ∷ drop i xs) e

-- the digits after the point
pub last_step : (d n : ℕ) (acc : List ℕ) → 0 < d → last_digits d n ++ acc ≡ last_digits (d - 1) (n / 10) ++ ((48 + n % 10) ∷ acc)
last_step zero n acc h = absurd (omega arith)
last_step (suc d) n acc h = let e : suc d - 1 ≡ d = omega arith in append_assoc (last_digits d (n / 10)) ((48 + n % 10) ∷ []) acc ∙ rw e

pub div_step : (d n m : ℕ) → 0 < d → n / 10 ^ d ≡ m → n / 10 / 10 ^ (d - 1) ≡ m
div_step zero n m h e = absurd (omega arith)
div_step (suc d) n m h e = let k : suc d - 1 ≡ d = omega arith in rw k (div-div-eq-div-mul n 10 (10 ^ d) ∙ ap (λ p. n / p) (sym (pow-succ' 10 d)) ∙ e)

pub room_places : (n d : ℕ) → n < 2 ^ 64 → 0 < d → d + 2 ≤ length (unsigned_text n d)
room_places n d h k = omega (arith, length_unsigned n d, length_fraction d n k, decimal_nonempty (n / 10 ^ d) (whole_le n d h))

-- the point, and the text once the digits after it stand
pub front_some : (n d v : ℕ) (acc : List ℕ) → 0 < d → n ≡ v / 10 ^ d → acc ≡ last_digits d v → decimal n ++ (46 ∷ acc) ≡ unsigned_text v d
front_some n zero v acc h e f = absurd (omega arith)
front_some n (suc d) v acc h e f = rw (e, f)

pub front_none : (n d v : ℕ) (acc : List ℕ) → d ≤ 0 → n ≡ v / 10 ^ d → acc ≡ last_digits d v → decimal n ++ acc ≡ unsigned_text v d
front_none n zero v acc h e f = rw (e, f)
front_none n (suc d) v acc h e f = absurd (omega arith)

pub length_step : (n : ℕ) → 10 ≤ n → n < 2 ^ 64 → length (decimal n) ≡ length (decimal (n / 10)) + 1
length_step n h k = ap length (decimal_step n h k) ∙ length_push (decimal (n / 10)) (48 + n % 10)

pub length_one : (n : ℕ) → n < 10 → length (decimal n) ≡ 1
length_one n h = ap length (decimal_digit n h)

-- the digits before the point and one for each place: those of the number, or one more than the places
pub length_whole : (d n : ℕ) → n < 2 ^ 64 → length (decimal (n / 10 ^ d)) + d ≡ max (length (decimal n)) (d + 1)
length_whole zero n h = omega (arith, ap (λ m. length (decimal m)) (div-one n), decimal_nonempty n h)
length_whole (suc d) n h =
    let step : n / 10 / 10 ^ d ≡ n / 10 ^ suc d = div-div-eq-div-mul n 10 (10 ^ d) ∙ ap (λ p. n / p) (sym (pow-succ' 10 d)) in
    let same = ap (λ m. length (decimal m)) step in
    let rest = length_whole d (n / 10) (omega arith) in
    ⊎_elim
    (λ (s : n < 10). omega (arith, same, rest, length_one n s, length_one (n / 10) (omega arith)))
    (λ (l : 10 ≤ n). omega (arith, same, rest, length_step n l h))
    (cases_lt n 10)

pub length_is : (k n : ℕ) → 10 ^ k ≤ n → n < 10 * 10 ^ k → n < 2 ^ 64 → k + 1 ≡ length (decimal n)
length_is zero n low high fit = omega (arith, length_one n (omega arith))
length_is (suc k) n low high fit =
    let p : 10 ^ suc k ≡ 10 * 10 ^ k = pow-succ' 10 k in
    let some : 1 ≤ 10 ^ k = one-le-pow k 10 (omega arith) in
    omega (arith, length_step n (omega arith) fit, length_is k (n / 10) (omega arith) (omega arith) (omega arith))

-- the digits of a number are its last ones, all of them
pub decimal_last : (k n : ℕ) → length (decimal n) ≡ k → n < 2 ^ 64 → last_digits k n ≡ decimal n
decimal_last zero n e h = absurd (omega (arith, decimal_nonempty n h))
decimal_last (suc k) n e h =
    ⊎_elim
    (λ (s : n < 10). let z : k ≡ 0 = omega (arith, length_one n s) in let m : n % 10 ≡ n = omega arith in rw (z, m) (sym (decimal_digit n s)))
    (λ (l : 10 ≤ n). ap (λ ds. ds ++ ((48 + n % 10) ∷ [])) (decimal_last k (n / 10) (omega (arith, length_step n l h)) (omega arith)) ∙ sym (decimal_step n l h))
    (cases_lt n 10)

pub whole_only : (n d m : ℕ) → d ≡ 0 → m ≡ length (unsigned_text n d) → n < 2 ^ 64 → last_digits m n ≡ unsigned_text n d
whole_only n d m z e h =
    let t : decimal n ++ [] ≡ unsigned_text n d = front_none n d n [] (omega arith) (sym (rw z (div-one n))) (rw z refl) in
    let u : decimal n ≡ unsigned_text n d = sym (append-nil (decimal n)) ∙ t in
    decimal_last m n (ap length u ∙ sym e) h ∙ u

-- a byte in front, and what was written behind it
pub first_then : (xs ys : List ℕ) (b : ℕ) → 1 ≤ length xs → put_mid 1 (length (set xs 0 b) - 1) (set xs 0 b) ys ≡ b ∷ ys
first_then [] ys b h = absurd (omega arith)
first_then (x ∷ xs) ys b h = ap (λ l. b ∷ (ys ++ l)) (drop_all (length (b ∷ xs) - 1) xs (omega arith)) ∙ ap (λ l. b ∷ l) (append-nil ys)

-- the digits of the whole number, the point, and the digits behind it
pub pointed : (n d p a r : ℕ) (front ys back : List ℕ) → ys ≡ last_digits p n → r ≡ n / 10 ^ p → front ≡ last_digits a r → 0 < d → n < 2 ^ 64 → p ≡ d → a ≡ length (decimal (n / 10 ^ d)) → 1 ≤ length back
    → front ++ put_mid 1 (length (set back 0 46) - 1) (set back 0 46) ys ≡ unsigned_text n d
pointed n d p a r front ys back digits rest whole some h e f room =
    let q : r ≡ n / 10 ^ d = rest ∙ ap (λ k. n / 10 ^ k) e in
    let w : front ≡ decimal (n / 10 ^ d) = whole ∙ ap (last_digits a) q ∙ decimal_last a (n / 10 ^ d) (sym f) (whole_le n d h) in
    ap (λ l. front ++ l) (first_then back ys 46 room) ∙ ap (λ l. l ++ (46 ∷ ys)) w ∙ front_some (n / 10 ^ d) d n ys some refl (digits ∙ ap (λ k. last_digits k n) e)

-- the sign
pub text_neg : (v : ℤ) (d : ℕ) → v <ℤ pos 0 → 45 ∷ unsigned_text (nat_abs v) d ≡ text_of v d
text_neg (pos n) d h = absurd (omega (arith, ints))
text_neg (negsuc n) d h = refl

pub abs_le : (v : ℤ) (k : ℕ) → pos 0 ≤ℤ v → v ≤ℤ pos k → nat_abs v ≤ k
abs_le (pos n) k h le = omega (arith, ints)
abs_le (negsuc n) k h le = absurd (omega (arith, ints))

-- What digits write, one after another.
use Rattle.std.proofs.Common.{◌≡◌, ℕ, ◌+◌, ◌-◌, ◌*◌, ◌<◌, ◌≤◌, true, cond, ◌&&◌, leb, List, [], ◌∷◌, length, get_or, drop, Some, None, Option, ◌∙◌, arith}
use Rattle.std.specs.Char.{is_ascii_digit}
use Rattle.std.specs.Str.{all_ascii_digits}
use Rattle.std.proofs.lemmas.List.{at_drop_more}
use Rattle.std.proofs.lemmas.Bool.{le-leb, lt-leb, and_right}
use Rattle.numbers.specs.Values.{digits_after}
use Rattle.commands.specs.Numerals.{numeral_of}

-- what the bytes write after the number n, where they are digits and it is at most `most`
abbrev pub read : ℕ → ℕ → List ℕ → Option ℕ
read most n ds = cond (all_ascii_digits ds && leb (digits_after n ds) most) (Some (digits_after n ds)) None

pub read_some : (most : ℕ) (w : List ℕ) → 0 < length w → numeral_of most w ≡ read most 0 w
read_some most w some = rw (le-leb 1 (length w) (omega arith))

pub read_more : (most n : ℕ) (xs : List ℕ) (i : ℕ) → i < length xs → is_ascii_digit (get_or xs i 0) ≡ true → read most n (drop i xs) ≡ read most (n * 10 + (get_or xs i 0 - 48)) (drop (i + 1) xs)
read_more most n xs i h d = at_drop_more (read most n) xs i 0 h ∙ rw d

after_least : (n : ℕ) (ds : List ℕ) → n ≤ digits_after n ds
after_least n [] = omega arith
after_least n (c ∷ cs) = omega (arith, after_least (n * 10 + (c - 48)) cs)

-- more digits make no number smaller
pub read_large : (most n : ℕ) (ds : List ℕ) → most < n → read most n ds ≡ None
read_large most n ds h =
    let l : most < digits_after n ds = omega (arith, after_least n ds) in
    rw (and_right (all_ascii_digits ds) (leb (digits_after n ds) most) (lt-leb _ _ l))

pub read_over : (most n : ℕ) (xs : List ℕ) (i : ℕ) → i < length xs → is_ascii_digit (get_or xs i 0) ≡ true → most < n * 10 + (get_or xs i 0 - 48) → read most n (drop i xs) ≡ None
read_over most n xs i h d l = read_more most n xs i h d ∙ read_large most _ (drop (i + 1) xs) l

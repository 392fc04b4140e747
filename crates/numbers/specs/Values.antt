-- The values of words, in units of their last place.
use Rattle.std.specs.Prelude.{ℕ, ◌+◌, ◌-◌, ◌*◌, ◌^◌, Bool, cond, List, [], ◌∷◌, length, ℤ, pos, neg_ℤ, Some, None, Option, nat_le}
use Rattle.numbers.specs.Shapes.{Shape, whole_word, decimal_word, text_word, word_of}

-- what digits write after the number n
abbrev pub digits_after : ℕ → List ℕ → ℕ
digits_after n [] = n
digits_after n (c ∷ cs) = digits_after (n * 10 + (c - 48)) cs

abbrev pub digits_value : List ℕ → ℕ
digits_value ds = digits_after 0 ds

abbrev pub signed_value : Bool → ℕ → ℤ
signed_value negative n = cond negative (neg_ℤ (pos n)) (pos n)

-- whether a field of d places takes these digits after the point
abbrev pub takes_fraction : List ℕ → ℕ → Bool
takes_fraction back d = nat_le (length back) d

-- the digits after the point in units of the d-th place
abbrev pub fraction_units : List ℕ → ℕ → ℕ
fraction_units back d = digits_value back * 10 ^ (d - length back)

abbrev pub whole_in : Shape → Option ℤ
whole_in (whole_word negative front) = Some (signed_value negative (digits_value front))
whole_in (decimal_word negative front back) = None
whole_in (text_word w) = None

-- the value in a field of d places
abbrev pub number_of : Shape → ℕ → Option ℤ
number_of (whole_word negative front) d = Some (signed_value negative (digits_value front * 10 ^ d))
number_of (decimal_word negative front back) d = cond (takes_fraction back d) (Some (signed_value negative (digits_value front * 10 ^ d + fraction_units back d))) None
number_of (text_word w) d = None

abbrev pub whole_of : List ℕ → Option ℤ
whole_of w = whole_in (word_of w)

abbrev pub decimal_of : List ℕ → ℕ → Option ℤ
decimal_of w d = number_of (word_of w) d

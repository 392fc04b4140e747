-- The numbers that words write.
use Rattle.std.specs.Prelude.{ℕ, ◌-◌, ◌^◌, Bool, cond, ◌&&◌, List, length, ℤ, Some, None, Option, nat_le}
use Rattle.std.specs.Str.{all_ascii_digits}
use Rattle.numbers.specs.Shapes.{has_minus, without_sign}
use Rattle.numbers.specs.Values.{digits_value, signed_value}

-- one or more digits
abbrev pub is_numeral : List ℕ → Bool
is_numeral w = nat_le 1 (length w) && all_ascii_digits w

-- the number that the word writes, where it is at most `most`
abbrev pub numeral_of : ℕ → List ℕ → Option ℕ
numeral_of most w = cond (is_numeral w && nat_le (digits_value w) most) (Some (digits_value w)) None

-- the largest distance from 0 of a number of 64 bits with this sign
abbrev pub most_of : Bool → ℕ
most_of negative = cond negative (2 ^ 63) (2 ^ 63 - 1)

abbrev pub with_sign : Bool → Option ℕ → Option ℤ
with_sign negative None = None
with_sign negative (Some n) = Some (signed_value negative n)

-- an optional sign and a numeral
abbrev pub signed_of : List ℕ → Option ℤ
signed_of w = with_sign (has_minus w) (numeral_of (most_of (has_minus w)) (without_sign w))

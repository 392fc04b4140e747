-- Numbers as they are written: all places, at least one digit before the point, no plus sign, no negative zero.
use Rattle.std.specs.Prelude.{ℕ, zero, suc, ◌+◌, ◌-◌, ◌/◌, ◌%◌, ◌^◌, List, [], ◌∷◌, ◌++◌, length, replicate, ℤ, pos, negsuc, decimal, unsigned_abs}

-- the last d digits of n
abbrev pub last_digits : ℕ → ℕ → List ℕ
last_digits zero n = []
last_digits (suc d) n = last_digits d (n / 10) ++ ((48 + n % 10) ∷ [])

-- the point and the digits after it; no point without places
abbrev pub fraction_text : ℕ → ℕ → List ℕ
fraction_text zero n = []
fraction_text (suc d) n = 46 ∷ last_digits (suc d) n

abbrev pub unsigned_text : ℕ → ℕ → List ℕ
unsigned_text n d = decimal (n / 10 ^ d) ++ fraction_text d n

-- v units of the d-th place
abbrev pub text_of : ℤ → ℕ → List ℕ
text_of (pos n) d = unsigned_text n d
text_of (negsuc n) d = 45 ∷ unsigned_text (suc n) d

-- the same at the right of a field of the given width
abbrev pub right_text : ℤ → ℕ → ℕ → List ℕ
right_text v d width = replicate (width - length (text_of v d)) 32 ++ text_of v d

-- with a leading zero
abbrev pub two_digits : ℤ → List ℕ
two_digits v = last_digits 2 (unsigned_abs v)

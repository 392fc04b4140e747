-- The forms of a word, a run of bytes without spaces.
use Rattle.std.specs.Prelude.{ℕ, ◌+◌, ◌≤◌, Bool, false, cond, ◌&&◌, ◌||◌, List, [], ◌∷◌, length, take, drop, ◌==◌, nat_le}

-- a byte from '0' to '9'
abbrev pub is_digit : ℕ → Bool
is_digit b = nat_le 48 b && nat_le b 57

-- the same as a statement
abbrev pub Digit : ℕ → Type 0
Digit b = (48 ≤ b) × (b ≤ 57)

-- how many digits stand at the front
abbrev pub digit_run : List ℕ → ℕ
digit_run [] = 0
digit_run (b ∷ bs) = cond (is_digit b) (1 + digit_run bs) 0

-- whether the word begins with '-'
abbrev pub has_minus : List ℕ → Bool
has_minus [] = false
has_minus (b ∷ bs) = b == 45

-- what follows the sign '+' or '-', if there is one
abbrev pub without_sign : List ℕ → List ℕ
without_sign [] = []
without_sign (b ∷ bs) = cond (b == 43 || b == 45) bs (b ∷ bs)

-- whether it is negative, the digits before the point, and those after it
pub data Shape : Type 0 where
  whole_word : Bool → List ℕ → Shape
  decimal_word : Bool → List ℕ → List ℕ → Shape
  text_word : List ℕ → Shape

-- the word w, by what follows its sign and its first digits
abbrev pub by_rest : List ℕ → Bool → List ℕ → List ℕ → Shape
by_rest w negative front [] = whole_word negative front
by_rest w negative front (b ∷ back) = cond (b == 46 && digit_run back == length back) (decimal_word negative front back) (text_word w)

-- the word w, by what follows its sign and the number of digits that this begins with
abbrev pub by_digits : List ℕ → Bool → List ℕ → ℕ → Shape
by_digits w negative body n = cond (nat_le 1 n && nat_le n 12) (by_rest w negative (take n body) (drop n body)) (text_word w)

abbrev pub word_of : List ℕ → Shape
word_of w = by_digits w (has_minus w) (without_sign w) (digit_run (without_sign w))

-- What a number's text is, in words of its parts.
use Rattle.std.specs.Prelude.{◌≡◌, ℕ, ◌+◌, ◌-◌, ◌*◌, ◌^◌, ◌≤◌, Bool, true, false, ◌⊎◌, List, [], ◌∷◌, ◌++◌, length, ℤ, Some}
use Rattle.std.specs.List.{AllByRecursion}
use Rattle.numbers.specs.Shapes.{Digit}
use Rattle.numbers.specs.Values.{digits_value, signed_value, whole_of, decimal_of}

abbrev pub SignText : Bool → List ℕ → Type 0
SignText true s = s ≡ 45 ∷ []
SignText false s = (s ≡ []) ⊎ (s ≡ 43 ∷ [])

-- the word w is a sign, 1 to 12 digits and the text rest
pub record Parts (w : List ℕ) (negative : Bool) (front rest : List ℕ) : Type 0 where
  pub sign : List ℕ
  pub signed : SignText negative sign
  pub digits : AllByRecursion Digit front
  pub some : 1 ≤ length front
  pub few : length front ≤ 12
  pub all : w ≡ sign ++ (front ++ rest)

-- the word w is a whole number, and its value is v
pub record IsWhole (w : List ℕ) (v : ℤ) : Type 0 where
  pub negative : Bool
  pub front : List ℕ
  pub parts : Parts w negative front []
  pub value : v ≡ signed_value negative (digits_value front)

-- the word w is a number with at most d digits after the point, and its value is v units of the d-th place
pub record IsDecimal (w : List ℕ) (d : ℕ) (v : ℤ) : Type 0 where
  pub negative : Bool
  pub front : List ℕ
  pub rest : List ℕ
  pub back : List ℕ
  pub parts : Parts w negative front rest
  pub point : ((rest ≡ []) × (back ≡ [])) ⊎ (rest ≡ 46 ∷ back)
  pub digits : AllByRecursion Digit back
  pub fine : length back ≤ d
  pub value : v ≡ signed_value negative (digits_value front * 10 ^ d + digits_value back * 10 ^ (d - length back))

-- what is read of a word is its value, and what is not read has none
abbrev pub WholeWordsExact : Type 0
WholeWordsExact = ((w : List ℕ) (v : ℤ) → whole_of w ≡ Some v → IsWhole w v) × ((w : List ℕ) (v : ℤ) → IsWhole w v → whole_of w ≡ Some v)

abbrev pub DecimalWordsExact : Type 0
DecimalWordsExact = ((w : List ℕ) (d : ℕ) (v : ℤ) → decimal_of w d ≡ Some v → IsDecimal w d v) × ((w : List ℕ) (d : ℕ) (v : ℤ) → IsDecimal w d v → decimal_of w d ≡ Some v)

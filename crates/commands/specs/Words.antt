-- Which words are numbers, and which.
use Rattle.std.specs.Prelude.{◌≡◌, ℕ, ◌≤◌, Bool, List, ◌++◌, length, ℤ, Some}
use Rattle.std.specs.List.{AllByRecursion}
use Rattle.numbers.specs.Shapes.{Digit}
use Rattle.numbers.specs.Parts.{SignText}
use Rattle.numbers.specs.Values.{digits_value, signed_value}
use Rattle.commands.specs.Numerals.{numeral_of, most_of, signed_of}

-- the word w is one or more digits, which write the number n
pub record IsNumeral (w : List ℕ) (n : ℕ) : Type 0 where
  pub digits : AllByRecursion Digit w
  pub some : 1 ≤ length w
  pub value : n ≡ digits_value w

-- the word w is an optional sign and digits, which write the number v, and v fits 64 bits
pub record IsSigned (w : List ℕ) (v : ℤ) : Type 0 where
  pub negative : Bool
  pub sign : List ℕ
  pub signed : SignText negative sign
  pub digits : List ℕ
  pub all : w ≡ sign ++ digits
  pub size : ℕ
  pub numeral : IsNumeral digits size
  pub fits : size ≤ most_of negative
  pub value : v ≡ signed_value negative size

-- what is read of a word is its number, and what is not read has none that fits
abbrev pub NumeralsExact : Type 0
NumeralsExact =
    (most : ℕ) (w : List ℕ) (n : ℕ) → (numeral_of most w ≡ Some n → IsNumeral w n × (n ≤ most)) × (IsNumeral w n → n ≤ most → numeral_of most w ≡ Some n)

abbrev pub SignedExact : Type 0
SignedExact = (w : List ℕ) (v : ℤ) → (signed_of w ≡ Some v → IsSigned w v) × (IsSigned w v → signed_of w ≡ Some v)

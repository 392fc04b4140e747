-- What is written is read back, and is one word of its line.
use Rattle.std.specs.Prelude.{◌≡◌, ℕ, ◌+◌, ◌^◌, ◌<◌, ◌≤◌, List, length, ℤ, pos, ◌≤ℤ◌, Some, unsigned_abs}
use Rattle.std.specs.List.{AllByRecursion}
use Rattle.numbers.specs.Values.{whole_of, decimal_of}
use Rattle.numbers.specs.Texts.{text_of, two_digits}

abbrev pub DecimalsReadBack : Type 0
DecimalsReadBack = (v : ℤ) (d : ℕ) → unsigned_abs v < 10 ^ (12 + d) → decimal_of (text_of v d) d ≡ Some v

abbrev pub WholesReadBack : Type 0
WholesReadBack = (v : ℤ) → unsigned_abs v < 10 ^ 12 → whole_of (text_of v 0) ≡ Some v

abbrev pub TwoDigitsReadBack : Type 0
TwoDigitsReadBack = (v : ℤ) → pos 0 ≤ℤ v → v ≤ℤ pos 99 → whole_of (two_digits v) ≡ Some v

-- a printable byte, and no space
abbrev pub Printable : ℕ → Type 0
Printable b = (33 ≤ b) × (b ≤ 126)

-- a text that is one word of its line
abbrev pub OneWord : List ℕ → Type 0
OneWord w = AllByRecursion Printable w × (1 ≤ length w)

abbrev pub TextsAreWords : Type 0
TextsAreWords = ((v : ℤ) (d : ℕ) → unsigned_abs v < 2 ^ 64 → OneWord (text_of v d)) × ((v : ℤ) → OneWord (two_digits v))

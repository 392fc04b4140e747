-- Lines, and the text that they make.
use Rattle.std.specs.Prelude.{◌≡◌, ℕ, ◌≤◌, List, [], ◌∷◌, ◌++◌, length}
use Rattle.std.specs.List.{AllByRecursion}
use Rattle.lines.specs.Texts.{Text, at_line, text_of}

-- a byte of a line before its end
abbrev pub LineByte : ℕ → Type 0
LineByte b = (32 ≤ b) × (b ≤ 126)

-- a line without its end
pub record IsLine (l : List ℕ) : Type 0 where
  pub bytes : AllByRecursion LineByte l
  pub short : length l ≤ 128

-- the text of lines: each with its end, byte 10
abbrev pub lines_text : List (List ℕ) → List ℕ
lines_text [] = []
lines_text (l ∷ ls) = (l ++ (10 ∷ [])) ++ lines_text ls

-- a text that ends after these lines
abbrev pub all_lines : List (List ℕ) → Text
all_lines ls = record { lines = ls; ending = at_line }

-- the text of lines has these lines, and ends after them
abbrev pub LinesSplit : Type 0
LinesSplit = (ls : List (List ℕ)) → AllByRecursion IsLine ls → text_of (lines_text ls) ≡ all_lines ls

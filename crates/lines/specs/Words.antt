use Rattle.std.specs.Prelude.{ℕ, Bool, true, cond, List, [], ◌∷◌, ◌==◌}

-- a word ends before these bytes
abbrev pub stops : List ℕ → Bool
stops [] = true
stops (b ∷ bs) = b == 32

abbrev pub on_first : ℕ → List (List ℕ) → List (List ℕ)
on_first b [] = (b ∷ []) ∷ []
on_first b (w ∷ ws) = (b ∷ w) ∷ ws

-- the words of a line: its runs of bytes that are no space
abbrev pub words : List ℕ → List (List ℕ)
words [] = []
words (b ∷ bs) = cond (b == 32) (words bs) (cond (stops bs) ((b ∷ []) ∷ words bs) (on_first b (words bs)))

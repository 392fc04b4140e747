use Rattle.std.specs.Prelude.{ℕ, cond, List, [], ◌∷◌, ◌++◌, length, Some, None, Option, ◌==◌, nat_le, nat_lt}
use Rattle.refusal.specs.declared.Refusal.{Refusal}
use Rattle.refusal.specs.declared.Refusal.TheVariants.{ForbiddenByte, TooLong}

-- how a text ends: after a whole line, or at a line that is none
pub data Ending : Type 0 where
  at_line : Ending
  forbidden : Ending
  too_long : Ending

-- the lines of a text up to the first that is none, and how it ends there
pub record Text : Type 0 where
  pub lines : List (List ℕ)
  pub ending : Ending

abbrev pub on_line : List ℕ → Text → Text
on_line l t = record { lines = l ∷ t.lines; ending = t.ending }

abbrev pub ends_by : Ending → Text
ends_by e = record { lines = []; ending = e }

abbrev pub ends_after : List ℕ → Text
ends_after [] = ends_by at_line
ends_after (b ∷ bs) = ends_by forbidden

-- the text bs after the bytes of a line that were read already
abbrev pub text_on : List ℕ → List ℕ → Text
text_on line [] = ends_after line
text_on line (b ∷ bs) =
    cond (b == 10) (cond (nat_le (length line) 128) (on_line line (text_on [] bs)) (ends_by too_long))
    (cond (nat_lt b 32) (ends_by forbidden) (cond (nat_lt 126 b) (ends_by forbidden) (text_on (line ++ (b ∷ [])) bs)))

abbrev pub text_of : List ℕ → Text
text_of bs = text_on [] bs

-- the refusal of the line at which the text ends, which has the number given
abbrev pub ending_refusal : ℕ → Ending → Option Refusal
ending_refusal number at_line = None
ending_refusal number forbidden = Some (ForbiddenByte number)
ending_refusal number too_long = Some (TooLong number)

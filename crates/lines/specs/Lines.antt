use Rattle.std.specs.Prelude.{ℕ, Bool, ◌||◌, ◌+◌, ◌<◌, cond, List, [], ◌∷◌, length, take, Some, None, Ok, Err, Option, Result, ◌==◌, nat_le, nat_lt}
use Rattle.std.specs.Borrow.{Bor}
use Rattle.refusal.specs.declared.Refusal.{Refusal}
use Rattle.refusal.specs.declared.Refusal.TheVariants.{ForbiddenByte, TooLong}
use Rattle.lines.specs.declared.scan.LineFault.{LineFault}
use Rattle.lines.specs.declared.scan.LineFault.TheVariants as faults

-- a line has at most 128 bytes before its end
abbrev pub ended : ℕ → Result ℕ LineFault
ended n = cond (nat_le n 128) (Ok n) (Err faults.TooLong)

-- how a text goes on after n bytes of a line: every byte before the end is from 32 to 126, and the end, byte 10, has to come
abbrev pub line_end : ℕ → List ℕ → Result ℕ LineFault
line_end n [] = Err faults.Forbidden
line_end n (b ∷ bs) = cond (b == 10) (ended n) (cond (nat_lt b 32) (Err faults.Forbidden) (cond (nat_lt 126 b) (Err faults.Forbidden) (line_end (n + 1) bs)))

-- the byte does not belong to a line
abbrev pub unprintable : ℕ → Bool
unprintable b = nat_lt b 32 || nat_lt 126 b

-- the line's end stands within n bytes
abbrev pub Inside : Result ℕ LineFault → ℕ → Type 0
Inside (Ok k) n = k < n
Inside (Err e) n = Unit {0}

-- what a reader answers, with the bytes in place of references to them
abbrev pub Answer : Type 0
Answer = Result (Option (List ℕ)) Refusal

abbrev pub lists : Result (Option (Bor (List ℕ))) Refusal → Answer
lists (Ok (Some x)) = Ok (Some x.now)
lists (Ok None) = Ok None
lists (Err e) = Err e

-- the refusal of the line of this number
abbrev pub fault_at : ℕ → LineFault → Refusal
fault_at number faults.Forbidden = ForbiddenByte number
fault_at number faults.TooLong = TooLong number

abbrev pub line_by : ℕ → List ℕ → Result ℕ LineFault → Answer
line_by number text (Ok n) = Ok (Some (take n text))
line_by number text (Err e) = Err (fault_at number e)

-- the first line of a text, which has the number given
abbrev pub next_line : ℕ → List ℕ → Answer
next_line number [] = Ok None
next_line number (b ∷ bs) = line_by number (b ∷ bs) (line_end 0 (b ∷ bs))

-- how far the reader goes on
abbrev pub bytes_taken : Answer → ℕ
bytes_taken (Ok (Some l)) = length l + 1
bytes_taken (Ok None) = 0
bytes_taken (Err e) = 0

abbrev pub lines_taken : Answer → ℕ
lines_taken (Ok (Some l)) = 1
lines_taken (Ok None) = 0
lines_taken (Err e) = 0

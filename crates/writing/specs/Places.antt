use Rattle.std.specs.Prelude.{ℕ, ◌+◌, cond, List, ◌++◌, length, take, drop, Ok, Err, Result, nat_le}
use Rattle.refusal.specs.declared.Refusal.{Refusal}
use Rattle.refusal.specs.declared.Refusal.TheVariants.{OutputTooShort}

-- the output after a text is written at a place
unfoldable pub put_at : List ℕ → ℕ → List ℕ → List ℕ
put_at out at text = take at out ++ (text ++ drop (at + length text) out)

-- a text written at the start of the output: its length, or a refusal where the output is shorter
abbrev pub write_answer : List ℕ → List ℕ → Result ℕ Refusal
write_answer text out = cond (nat_le (length text) (length out)) (Ok (length text)) (Err OutputTooShort)

-- and the output after it: a refusal leaves it as it was
abbrev pub after_write : List ℕ → List ℕ → List ℕ
after_write text out = cond (nat_le (length text) (length out)) (text ++ drop (length text) out) out

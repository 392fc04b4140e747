use Rattle.std.specs.Prelude.{ℕ, cond, List, length, Ok, Err, Result, nat_lt}
use Rattle.refusal.specs.declared.Refusal.{Refusal}
use Rattle.refusal.specs.declared.Refusal.TheVariants.{TooLong}
use Rattle.sheet.specs.Openings.{Contents, opened_from}
use Rattle.writing.specs.Files.{canonical}
use Rattle.writing.specs.Places.{write_answer, after_write}

-- what an opened file answers when it is written
abbrev pub answer_by : Result Contents Refusal → List ℕ → Result ℕ Refusal
answer_by (Ok c) out = write_answer (canonical c.header c.rows) out
answer_by (Err e) out = Err e

abbrev pub output_by : Result Contents Refusal → List ℕ → List ℕ
output_by (Ok c) out = after_write (canonical c.header c.rows) out
output_by (Err e) out = out

-- the input opened in a sheet with memory for so many rows, and written
abbrev pub rewritten : ℕ → List ℕ → List ℕ → Result ℕ Refusal
rewritten memory input out = cond (nat_lt 65536 (length input)) (Err (TooLong 0)) (answer_by (opened_from memory input) out)

abbrev pub rewritten_output : ℕ → List ℕ → List ℕ → List ℕ
rewritten_output memory input out = cond (nat_lt 65536 (length input)) out (output_by (opened_from memory input) out)

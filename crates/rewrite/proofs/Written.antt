use Rattle.std.proofs.Common.{◌≡◌, ℕ, ◌≤◌, List, length, Some, Ok, Option, Result, sym, ap, ◌∙◌}
use Rattle.std.proofs.lemmas.Bool.{le-ltb}
use Rattle.refusal.specs.declared.Refusal.{Refusal}
use Rattle.model.specs.declared.Row.{Row}
use Rattle.model.specs.declared.header.Header.{Header}
use Rattle.closed_sheet.specs.Answers.{file_answer, after_file}
use Rattle.sheet.specs.Openings.{Contents, opened_from}
use Rattle.rewrite.specs.Rewriting.{answer_by, output_by, rewritten, rewritten_output}

-- an input that opens, by what the sheet then writes
module _ (memory : ℕ) (input out : List ℕ) (c : Contents) (h : Option Header) (rows : List Row) (short : length input ≤ 65536) (told : opened_from memory input ≡ Ok c) (header : h ≡ Some c.header) (same : rows ≡ c.rows) where
  pub answer_is : (r : Result ℕ Refusal) → r ≡ file_answer h rows out → r ≡ rewritten memory input out
  answer_is r e = e ∙ (λ i. file_answer (header i) (same i) out) ∙ sym (rw (le-ltb 65536 (length input) short) (ap (λ q. answer_by q out) told))

  pub output_is : (after : List ℕ) → after ≡ after_file h rows out → after ≡ rewritten_output memory input out
  output_is after e = e ∙ (λ i. after_file (header i) (same i) out) ∙ sym (rw (le-ltb 65536 (length input) short) (ap (λ q. output_by q out) told))

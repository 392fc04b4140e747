use Rattle.std.proofs.Common.{◌≡◌, ℕ, ◌+◌, length, drop, Some, Ok, Result, sym, ap, ◌∙◌, arith}
use Rattle.refusal.specs.declared.Refusal.{Refusal}
use Rattle.reading.specs.declared.scan.Scan.{Scan}
use Rattle.std.proofs.lemmas.Result.{err_from_is_err_and}
use Rattle.lines.specs.Lines.{next_line}
use Rattle.lines.specs.Texts.{text_of}
use Rattle.reading.specs.Scans.{line_step, on_ok}
use Rattle.reading.specs.Ends.{end_refusal}
use Rattle.reading.specs.Texts.{scan_from, scan_of}
use Rattle.reading.proofs.TextLaws.{count_step, one_line, bad_step, at_last, no_text, some_told, none_told, line_taken, bytes_taken_lem, none_taken, short_text}
use Rattle.reading.proofs.text.scan_text.Goals as goal
use Rattle.reading.proofs.text.scan_text.Goals.{In-Some, In_ok-line, In_default, At-loop-line}

-- what is left to read decides
whole : (c : At-loop-line) → scan_from c.loop-line.lines.line (text_of (drop c.loop-line.lines.at c.args.text.now)) c.loop-line.scan ≡ scan_of c.args.part c.args.room c.args.text.now
whole c = c.loop-line.invariant.0 ∙ short_text c.args.part c.args.room c.args.text.now c.start-scan.result c.if-text-gt-LONGEST_TEXT.false c.start-scan.ensures

told : (c : In-Some) → next_line (c.loop-line.lines.line + 1) (drop c.loop-line.lines.at c.args.text.now) ≡ Ok (Some c.in-Some.line.now)
told c = some_told c.loop-line.lines.file.now c.args.text.now c.loop-line.lines.line c.loop-line.lines.at c.in_ok-line.field-0 c.loop-line.invariant.1 c.in_ok-line.ensures.gives c.in-Some.line c.in-Some.is

counted : (c : In-Some) → c.next.new.self.line ≡ c.loop-line.lines.line + 1
counted c = line_taken _ _ c.in_ok-line.field-0 c.in-Some.line c.in_ok-line.ensures.line c.in-Some.is

far : (c : In-Some) → c.next.new.self.at ≡ c.loop-line.lines.at + (length c.in-Some.line.now + 1)
far c = bytes_taken_lem _ _ c.in_ok-line.field-0 c.in-Some.line c.in_ok-line.ensures.at c.in-Some.is

pub returns-in_err-line : goal.returns-in_err-line
returns-in_err-line c =
    let p = err_from_is_err_and c.from_residual.result c.from_residual.ensures.1 in
    let bad = sym (c.in_err-line.ensures.gives ∙ ap (λ f. next_line (c.loop-line.lines.line + 1) (drop c.loop-line.lines.at f)) c.loop-line.invariant.1) in
    rw (p.1, p.2) (sym (no_text c.args.text.now c.loop-line.lines.line c.loop-line.lines.at c.loop-line.scan _ bad) ∙ whole (goal.at.returns-in_err-line c).At-loop-line)

-- the line was taken under its number
taken_at : (c : In-Some) (number : ℕ) → number ≡ c.next.new.self.line → (s : Scan) (r : Result Scan Refusal) → line_step number c.in-Some.line.now s ≡ r → line_step (c.loop-line.lines.line + 1) c.in-Some.line.now s ≡ r
taken_at c number e s r p = ap (λ n. line_step n c.in-Some.line.now s) (sym (e ∙ counted c)) ∙ p

pub loop-line-preserved : goal.loop-line-preserved
loop-line-preserved c =
    let some = (goal.at.loop-line-preserved c).In-Some in
    let step = taken_at some c.number.result c.number.ensures c.loop-line.scan (Ok c.line.new.self) c.in_ok-line-2.ensures in
    let more = count_step (c.loop-line.lines.line + 1) c.in-Some.line.now c.loop-line.scan c.line.new.self step in
    let n = counted some in (
      (λ i. scan_from (n i) (text_of (drop (far some i) c.args.text.now)) c.line.new.self)
          ∙ sym (one_line c.args.text.now c.loop-line.lines.line c.loop-line.lines.at c.loop-line.scan c.in-Some.line.now c.line.new.self (told some) step)
          ∙ c.loop-line.invariant.0,
      ap (λ f. f.now) c.in_ok-line.ensures.file ∙ c.loop-line.invariant.1,
      omega (arith, c.loop-line.invariant.2),
    )

pub returns-in_err-line-2 : goal.returns-in_err-line-2
returns-in_err-line-2 c =
    let p = err_from_is_err_and c.from_residual-in_err-line-2.result c.from_residual-in_err-line-2.ensures.1 in
    let some = (goal.at.returns-in_err-line-2 c).In-Some in
    let step = taken_at some c.number.result c.number.ensures c.loop-line.scan _ c.in_err-line-2.ensures.0 in
    rw (p.1, p.2) (sym (bad_step c.args.text.now c.loop-line.lines.line c.loop-line.lines.at c.loop-line.scan c.in-Some.line.now _ (told some) step) ∙ whole (goal.at.returns-in_err-line-2 c).At-loop-line)

-- after the last line, the end decides
at_end : (c : In_default) (n : ℕ) → n ≡ c.next.new.self.line → on_ok (end_refusal c.loop-line.scan n) c.loop-line.scan ≡ scan_of c.args.part c.args.room c.args.text.now
at_end c n e =
    let none = none_told c.loop-line.lines.file.now c.args.text.now c.loop-line.lines.line c.loop-line.lines.at c.in_ok-line.field-0 c.loop-line.invariant.1 c.in_ok-line.ensures.gives c.in_default.is in
    let same = none_taken _ _ c.in_ok-line.field-0 c.in_ok-line.ensures.line c.in_default.is in
    ap (λ k. on_ok (end_refusal c.loop-line.scan k) c.loop-line.scan) (e ∙ same)
    ∙ sym (at_last c.args.text.now c.loop-line.lines.line c.loop-line.lines.at c.loop-line.scan none)
    ∙ whole (goal.at.In_default c).At-loop-line

pub returns-in_err-finish : goal.returns-in_err-finish
returns-in_err-finish c =
    let p = err_from_is_err_and c.from_residual-in_err-finish.result c.from_residual-in_err-finish.ensures.1 in
    rw (p.1, p.2) (ap (λ r. on_ok r c.loop-line.scan) c.in_err-finish.ensures ∙ at_end (goal.at.returns-in_err-finish c).In_default c.number-2.result c.number-2.ensures)

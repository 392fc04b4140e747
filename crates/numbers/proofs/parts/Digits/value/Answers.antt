use Rattle.std.proofs.Common.{◌≡◌, ◌+◌, ◌-◌, ◌*◌, ◌^◌, ◌<◌, get_or, drop, sym, ap, ◌∙◌, arith, rules}
use Rattle.std.proofs.ByRecursion.{All-get_or}
use Rattle.numbers.specs.Shapes.{Digit}
use Rattle.numbers.specs.Values.{digits_after}
use Rattle.numbers.proofs.Digits as digits
use Rattle.numbers.proofs.Taken.{run_full}
use Rattle.numbers.proofs.parts.Digits.value.Goals as goal
use Rattle.numbers.proofs.parts.Digits.value.Goals.{In-loop-digit}

digit : (c : In-loop-digit) → Digit (get_or c.args.self.now.bytes.now c.loop-digit.digit-index 0)
digit c = All-get_or Digit c.args.self.now.bytes.now c.loop-digit.digit-index 0 c.loop-digit-test.true (run_full c.args.self.now.bytes.now c.args.self.now.all)

-- there is one digit more to come, so that the value has at most eleven
small : (c : In-loop-digit) → c.loop-digit.value < 10 ^ 11
small c = digits.below c.loop-digit.value c.loop-digit.digit-index 11 c.loop-digit.invariant.1 (omega arith)

pub overflow_mul-value : goal.overflow_mul-value
overflow_mul-value c = omega (arith, small (goal.at.overflow_mul-value c).In-loop-digit)

pub overflow_sub-digit : goal.overflow_sub-digit
overflow_sub-digit c = (digit (goal.at.overflow_sub-digit c).In-loop-digit).0

pub overflow_add-value : goal.overflow_add-value
overflow_add-value c = omega (arith, small (goal.at.overflow_add-value c).In-loop-digit)

pub loop-digit-preserved : goal.loop-digit-preserved
loop-digit-preserved c =
    let n = c.loop-digit.value in
    let i = c.loop-digit.digit-index in
    let xs = c.args.self.now.bytes.now in
    let e : c.from.result ≡ get_or xs i 0 - 48 = search rules in
    let h = digit (goal.at.loop-digit-preserved c).In-loop-digit in (
      ap (λ m. digits_after (n * 10 + m) (drop (i + 1) xs)) e ∙ sym (digits.after_more n xs i c.loop-digit-test.true) ∙ c.loop-digit.invariant.0,
      digits.digit_more n i c.from.result c.loop-digit.invariant.1 (omega arith),
    )

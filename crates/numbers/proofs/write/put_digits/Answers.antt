use Rattle.std.proofs.Common.{◌+◌, ◌%◌, ◌-◌, ◌/◌, ◌++◌, drop, sym, ap, ◌∙◌, arith}
use Rattle.numbers.specs.Texts.{last_digits}
use Rattle.numbers.proofs.Puts as puts
use Rattle.numbers.proofs.write.put_digits.Goals as goal

pub loop-i-preserved : goal.loop-i-preserved
loop-i-preserved c =
    let i = c.loop-i.i in
    let rest = c.loop-i.rest in (
      ap (λ l. last_digits (i - 1) (rest / 10) ++ l) (puts.back c.loop-i.field i (48 + rest % 10) (omega arith) (omega arith)) ∙ sym (puts.last_step i rest (drop i c.loop-i.field) (omega arith)) ∙ c.loop-i.invariant.0,
      puts.div_step i rest _ (omega arith) c.loop-i.invariant.1,
      omega arith,
    )

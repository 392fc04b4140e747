use Rattle.std.proofs.Common.{length, arith}
use Rattle.numbers.proofs.Digits as digits
use Rattle.numbers.proofs.value.whole_value.Goals as goal

pub signed-requires : goal.signed-requires
signed-requires c = let whole = c.in-Whole.whole in digits.below c.value.result (length whole.digits.bytes.now) 18 c.value.ensures.small (omega (arith, whole.few))

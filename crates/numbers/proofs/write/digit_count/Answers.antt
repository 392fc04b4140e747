use Rattle.std.proofs.Common.{rules, arith}
use Rattle.numbers.proofs.Puts as puts
use Rattle.numbers.proofs.write.digit_count.Goals as goal

pub returns-in-Some : goal.returns-in-Some
returns-in-Some c = puts.length_is c.in-Some.log c.args.value c.in-Some.ensures.power_le c.in-Some.ensures.next_power_gt (omega arith)

pub returns-in-None : goal.returns-in-None
returns-in-None c = omega (arith, puts.length_one c.args.value (search rules))

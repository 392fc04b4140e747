use Rattle.std.proofs.Common.{◌≡◌, ◌+◌, ◌*◌, ◌^◌, ◌≤◌, length, arith, rules}
use Rattle.numbers.proofs.Digits as digits
use Rattle.numbers.proofs.value.Places.whole_units.Goals as goal
use Rattle.numbers.proofs.value.Places.whole_units.Goals.{After-pow}

room : (c : After-pow) → c.value.result * c.pow.result + 10 ^ c.args.self.count ≤ 10 ^ 18
room c =
    let d = c.args.self.count in
    let whole = c.args.whole.now in
    let power : c.pow.result ≡ 10 ^ d = search rules in
    rw power (digits.units_short c.value.result d (digits.below c.value.result (length whole.digits.bytes.now) 12 c.value.ensures.small whole.few) c.args.self.few)

pub overflow_mul-result : goal.overflow_mul-result
overflow_mul-result c = omega (arith, room c)

pub returns-clause-room : goal.returns-clause-room
returns-clause-room c = room c

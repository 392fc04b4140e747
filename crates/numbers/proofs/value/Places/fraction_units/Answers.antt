use Rattle.std.proofs.Common.{◌≡◌, ◌-◌, ◌^◌, length, rules}
use Rattle.numbers.proofs.Digits as digits
use Rattle.numbers.proofs.value.Places.fraction_units.Goals as goal

pub returns-clause-small : goal.returns-clause-small
returns-clause-small c =
    let k = length c.args.fraction.now.bytes.now in
    let d = c.args.self.count in
    let power : c.pow.result ≡ 10 ^ (d - k) = search rules in
    rw power (digits.fraction_short c.value.result k d c.value.ensures.small (search rules))

use Rattle.std.proofs.Common.{◌≡◌, ◌^◌, ◌<◌, drop}
use Rattle.numbers.specs.Values.{digits_after, digits_value}
use Rattle.numbers.proofs.parts.Digits.value.Given as goal

abbrev pub invariant-loop-digit : goal.invariant-loop-digit
invariant-loop-digit l = (digits_after l.value (drop l.digit-index l.self.bytes.now) ≡ digits_value l.self.bytes.now) × (l.value < 10 ^ l.digit-index)

use Rattle.std.proofs.Common.{◌≡◌, ◌/◌, ◌^◌, ◌≤◌, ◌++◌, length, drop}
use Rattle.numbers.specs.Texts.{last_digits}
use Rattle.numbers.proofs.write.put_digits.Given as goal

abbrev pub invariant-loop-i : goal.invariant-loop-i
invariant-loop-i l =
    (last_digits l.i l.rest ++ drop l.i l.field ≡ last_digits (length l.initial.field) l.value)
    × (l.rest / 10 ^ l.i ≡ l.value / 10 ^ length l.initial.field)
    × (l.i ≤ length l.initial.field)

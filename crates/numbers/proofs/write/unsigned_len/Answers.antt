use Rattle.std.proofs.Common.{arith}
use Rattle.numbers.proofs.Lengths as lengths
use Rattle.numbers.proofs.Puts as puts
use Rattle.numbers.proofs.write.unsigned_len.Goals as goal

pub overflow_add-result : goal.overflow_add-result
overflow_add-result c = omega (arith, c.max.ensures, lengths.digits_le c.args.value (omega arith))

pub returns-else-places-eq0 : goal.returns-else-places-eq0
returns-else-places-eq0 c =
    let n = c.args.value in
    let d = c.args.places in
    omega (arith, c.max.ensures, puts.length_whole d n (omega arith), lengths.length_unsigned n d, lengths.length_fraction d n (omega arith))

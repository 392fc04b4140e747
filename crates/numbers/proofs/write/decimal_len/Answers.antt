use Rattle.std.proofs.Common.{arith}
use Rattle.numbers.proofs.Lengths as lengths
use Rattle.numbers.proofs.write.decimal_len.Goals as goal

pub overflow_add-result : goal.overflow_add-result
overflow_add-result c = omega (arith, lengths.unsigned_le c.unsigned_abs.result c.args.places c.unsigned_abs.type_inv)

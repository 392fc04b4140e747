use Rattle.std.proofs.Common.{◌≡◌, drop}
use Rattle.commands.proofs.Digits.{read}
use Rattle.commands.proofs.numeral.numeral.Given as goal

abbrev pub invariant-loop-byte : goal.invariant-loop-byte
invariant-loop-byte l = read l.most l.value (drop l.byte-index l.word) ≡ read l.most 0 l.word

use Rattle.std.proofs.Common.{inl, arith}
use Rattle.lines.proofs.WordLaws.{words_le}
use Rattle.lines.proofs.words.count_words.Goals as goal

pub count-requires-clause-fits : goal.count-requires-clause-fits
count-requires-clause-fits c = inl (rw c.new.ensures (omega (arith, words_le c.args.line.now)))

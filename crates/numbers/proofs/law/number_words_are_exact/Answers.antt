use Rattle.numbers.proofs.Exact.{whole_exact, decimal_exact}
use Rattle.numbers.proofs.law.number_words_are_exact.Goals as goal

pub returns : goal.returns
returns c = record { wholes = whole_exact; decimals = decimal_exact }

use Rattle.numbers.proofs.Back.{decimals_back, wholes_back, two_back}
use Rattle.numbers.proofs.Printed.{texts_are_words}
use Rattle.numbers.proofs.law.numbers_read_back.Goals as goal

pub returns : goal.returns
returns c = record { decimals = decimals_back; wholes = wholes_back; pairs = two_back; words = texts_are_words }

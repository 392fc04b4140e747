use Rattle.commands.proofs.Exact.{numerals_exact, signed_exact}
use Rattle.commands.proofs.law.numerals_are_exact.Goals as goal

pub returns : goal.returns
returns c = record { unsigned = numerals_exact; signed = signed_exact }

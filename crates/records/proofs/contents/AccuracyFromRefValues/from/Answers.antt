use Rattle.std.proofs.Common.{pos, ap, rules}
use Rattle.records.specs.Values.{values_of, number_at}
use Rattle.records.proofs.FromFn.{made}
use Rattle.records.proofs.contents.AccuracyFromRefValues.from.Goals as goal

pub returns : goal.returns
returns c = ap (λ l. record { values = l }) (made _ (number_at (values_of c.args.values.now)) _ (λ j y q k. search rules) c.from_fn.result 9 (pos 0) c.from_fn.ensures.items)

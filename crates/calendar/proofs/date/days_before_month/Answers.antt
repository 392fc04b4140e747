use Rattle.std.proofs.Common.{rules, ◌-◌, ◌∙◌, refl, arith}
use Rattle.std.proofs.lemmas.Iterator.{YieldsList-from_map, YieldsList-from_range}
use Rattle.std.proofs.lemmas.Iterator.Consumers.{sum_from_yields_List, fits_from_yields_list}
use Rattle.calendar.specs.Dates.{days_in_month}
use Rattle.calendar.proofs.Dates.{months_sum, month_fits, year_length}
use Rattle.calendar.proofs.date.days_before_month.Goals as goal

pub sum-requires-clause-fits : goal.sum-requires-clause-fits
sum-requires-clause-fits c =
    fits_from_yields_list _ _ (YieldsList-from_map _ (days_in_month c.args.year) (YieldsList-from_range 1 c.args.month (c.args.month - 1) c.map.ensures.source refl) c.map.ensures.closure (λ x r q k. search rules)) (omega (arith, months_sum c.args.year c.args.month c.requires.0, month_fits c.args.year c.args.month c.requires.1, year_length c.args.year))

pub returns : goal.returns
returns c =
    sum_from_yields_List _ _ c.sum.ensures.ran (YieldsList-from_map _ (days_in_month c.args.year) (YieldsList-from_range 1 c.args.month (c.args.month - 1) c.map.ensures.source refl) c.map.ensures.closure (λ x r q k. search rules)) ∙ months_sum c.args.year c.args.month c.requires.0

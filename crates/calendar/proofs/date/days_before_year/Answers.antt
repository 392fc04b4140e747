use Rattle.std.proofs.Common.{rules, ◌-◌, ◌∙◌, refl, arith}
use Rattle.std.proofs.lemmas.Iterator.{YieldsList-from_map, YieldsList-from_range}
use Rattle.std.proofs.lemmas.Iterator.Consumers.{sum_from_yields_List, fits_from_yields_list}
use Rattle.calendar.specs.Dates.{days_in_year}
use Rattle.calendar.proofs.Dates.{years_sum, year_fits}
use Rattle.calendar.proofs.date.days_before_year.Goals as goal

pub sum-requires-clause-fits : goal.sum-requires-clause-fits
sum-requires-clause-fits c =
    fits_from_yields_list _ _ (YieldsList-from_map _ days_in_year (YieldsList-from_range 1970 c.args.year (c.args.year - 1970) c.map.ensures.source refl) c.map.ensures.closure (λ x r q k. search rules)) (omega (arith, years_sum c.args.year, year_fits c.args.year c.requires.0 c.requires.1))

pub returns : goal.returns
returns c =
    sum_from_yields_List _ _ c.sum.ensures.ran (YieldsList-from_map _ days_in_year (YieldsList-from_range 1970 c.args.year (c.args.year - 1970) c.map.ensures.source refl) c.map.ensures.closure (λ x r q k. search rules)) ∙ years_sum c.args.year

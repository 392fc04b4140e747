use Rattle.std.proofs.Common.{◌≡◌, ◌+◌, ◌-◌, ◌≤◌, arith, rules}
use Rattle.calendar.specs.Dates.{days_in_month, days_before_year, days_before_month}
use Rattle.calendar.proofs.Dates.{no_years, year_more, year_left, first_month, month_more, month_left, exists_from, date_if_is}
use Rattle.calendar.proofs.date.Date.of_day.Goals as goal
use Rattle.calendar.proofs.date.Date.of_day.Goals.{After-period_at-month}

in_calendar : (c : After-period_at-month) → (40587 ≤ c.args.day) × (c.args.day ≤ 88068)
in_calendar c = search rules

years : (c : After-period_at-month) → days_before_year c.period_at-year.result.0 + c.period_at-year.result.1 ≡ c.args.day - 40587
years c = let s = c.period_at-year.ensures.start days_before_year (λ p r a b h. omega (arith, year_more p a)) in omega (arith, no_years)

months : (c : After-period_at-month) → days_before_month c.period_at-year.result.0 c.period_at-month.result.0 + c.period_at-month.result.1 ≡ c.period_at-year.result.1
months c = let y = c.period_at-year.result.0 in let s = c.period_at-month.ensures.start (days_before_month y) (λ p r a b h. let e : r ≡ days_in_month y p = search rules in omega (arith, month_more y p)) in omega (arith, first_month y)

pub overflow_add-result : goal.overflow_add-result
overflow_add-result c = omega (arith, years c, months c, c.ranges.day)

pub returns : goal.returns
returns c =
    let y = c.period_at-year.result.0 in
    let m = c.period_at-month.result.0 in
    let a = c.period_at-year.ensures.within in
    let b = c.period_at-month.ensures.within in
    let d = in_calendar c in
    let k = years c in
    let n = months c in
    let l = year_left y c.period_at-year.result.1 a.0 a.1 (omega arith) c.period_at-year.ensures.end in
    let r = month_left y m c.period_at-month.result.1 b.1 (omega arith) (search (rules, c.period_at-month.ensures.end)) in
    date_if_is c.args.day _ (exists_from _ a.0 a.1 b.0 b.1 (omega arith) (omega arith)) (omega arith)

use Rattle.std.proofs.Common.{◌≡◌, ℕ, ◌+◌}
use Rattle.calendar.specs.Dates.{StartsBy}
use Rattle.calendar.proofs.date.period_at.Given as goal

abbrev pub invariant-loop-period : goal.invariant-loop-period
invariant-loop-period g l = (start : ℕ → ℕ) → StartsBy (goal.F-post g l.length) l.first l.last start → start l.period + l.left ≡ start l.first + l.days

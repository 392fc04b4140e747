use Rattle.std.proofs.Common.{ℕ, ◌-◌, ◌<◌, ◌≤◌, length, get_or}
use Rattle.calendar.specs.declared.instant.Instant.{Instant}
use Rattle.calendar.specs.Instants.{moment}
use Rattle.tables.proofs.search.count_not_after.Given as goal

-- what stands below `low` is not after the instant, what stands from `high` on is after it
abbrev pub invariant-loop-low : goal.invariant-loop-low
invariant-loop-low g l =
    (l.low ≤ l.high)
    × (l.high ≤ length (g.T.TimeLine.instants l.t))
    × ((k : ℕ) (d : Instant) → k < l.low → moment (get_or (g.T.TimeLine.instants l.t) k d) ≤ l.limit)
    × ((k : ℕ) (d : Instant) → l.high ≤ k → k < length (g.T.TimeLine.instants l.t) → l.limit < moment (get_or (g.T.TimeLine.instants l.t) k d))

abbrev pub decreases-loop-low : goal.decreases-loop-low
decreases-loop-low g l = l.high - l.low

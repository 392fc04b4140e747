-- What a comparison of instants tells of their moments.
use Rattle.std.proofs.Common.{◌≡◌, ◌<◌, ◌≤◌, true, false, rules}
use Rattle.std.specs.Ordering.{partial_lt}
use Rattle.calendar.specs.contracts.instant.InstantPartialOrd.TheImpl.{ghosts}
use Rattle.calendar.specs.declared.instant.Instant.{Instant}
use Rattle.calendar.specs.Instants.{moment}

pub lt_true : (i j : Instant) → true ≡ partial_lt ghosts.partial_cmp i j → moment i < moment j
lt_true i j h = search rules

pub lt_false : (i j : Instant) → false ≡ partial_lt ghosts.partial_cmp i j → moment j ≤ moment i
lt_false i j h = search rules

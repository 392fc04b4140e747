use Rattle.std.specs.Prelude.{◌≡◌}
use Rattle.std.specs.Ordering.{nat_cmp}
use Rattle.calendar.specs.declared.instant.Instant.{Instant}
use Rattle.calendar.specs.contracts.instant.InstantOrd.TheImpl.{ghosts}
use Rattle.calendar.specs.Instants.{moment}

-- the order of instants is that of their moments
abbrev pub InstantsInOrder : Type 0
InstantsInOrder = (i j : Instant) → ghosts.cmp i j ≡ nat_cmp (moment i) (moment j)

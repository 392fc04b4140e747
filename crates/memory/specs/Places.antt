use Rattle.std.specs.Prelude.{◌≡◌, List, length}
use Rattle.std.specs.Borrow.{MutBor}

-- the same place in memory, as large as before
pub record SamePlace {X : Type 0} (before after : MutBor (List X)) : Type 0 where
  pub same : after.ghost_name ≡ before.ghost_name
  pub len : length after.now ≡ length before.now

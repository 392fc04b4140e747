use Rattle.std.specs.Prelude.{ℕ, zero, suc, ◌+◌, ◌<◌, Bool, true, cond, ◌&&◌, List, [], ◌∷◌, length, Ok, Err, Result, nat_le, nat_lt, slice_index_or}
use Rattle.refusal.specs.declared.Refusal.{Refusal}
use Rattle.refusal.specs.declared.Refusal.TheVariants.{NoSuchNumber}
use Rattle.calendar.specs.declared.instant.Instant.{Instant}
use Rattle.calendar.specs.Instants.{moment}
use Rattle.model.specs.declared.Row.{Row}

-- the instant of a row
abbrev pub time_of : Row → Instant
time_of r = r.at

-- each instant is after all those before it
abbrev pub Ascending : List Instant → Type 0
Ascending ts = (i j : ℕ) (d : Instant) → i < j → j < length ts → moment (slice_index_or ts i d) < moment (slice_index_or ts j d)

-- the element of that number, counted from 0
abbrev pub place : {X : Type 0} → List X → ℕ → Result X Refusal
place [] i = Err NoSuchNumber
place (x ∷ xs) zero = Ok x
place (x ∷ xs) (suc i) = place xs i

-- how many instants are not after the moment
abbrev pub not_after : List Instant → ℕ → ℕ
not_after [] m = 0
not_after (t ∷ ts) m = cond (nat_le (moment t) m) 1 0 + not_after ts m

-- how many instants are before the moment
abbrev pub earlier : List Instant → ℕ → ℕ
earlier [] m = 0
earlier (t ∷ ts) m = cond (nat_lt (moment t) m) 1 0 + earlier ts m

-- the first of the rows, if any, is after this one
abbrev pub next_after : Row → List Row → Bool
next_after r [] = true
next_after r (s ∷ rs) = nat_lt (moment r.at) (moment s.at)

-- each row is before the next
abbrev pub ascends : List Row → Bool
ascends [] = true
ascends (r ∷ rs) = next_after r rs && ascends rs

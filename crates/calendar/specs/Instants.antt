use Rattle.std.specs.Prelude.{◌≡◌, true, ℕ, ◌+◌, ◌-◌, ◌*◌, ◌%◌, ◌<◌, Bool, cond, ◌&&◌, Ok, Err, Result, nat_le, nat_lt}
use Rattle.std.proofs.Common.{mod-lt, arith, lit<}
use Rattle.std.proofs.lemmas.Bool.{le-leb, and_from}
use Rattle.refusal.specs.declared.Refusal.{Refusal}
use Rattle.refusal.specs.declared.Refusal.TheVariants.{OutsideCalendar}
use Rattle.calendar.specs.declared.instant.Instant.{Instant}
use Rattle.calendar.specs.Dates.{day_exists}

-- the microseconds from the start of day 0
abbrev pub moment : Instant → ℕ
moment i = i.day * 86400000000 + i.micros

-- the calendar runs from 1 January 1970 to 31 December 2099
abbrev pub in_calendar : ℕ → ℕ → Bool
in_calendar day micros = nat_le 40587 day && (nat_le day 88068 && nat_lt micros 86400000000)

-- the instant of a day and microseconds in the calendar; others are brought into it, so that there is always an instant
abbrev pub instant_of : ℕ → ℕ → Instant
instant_of day micros =
    let d : (day - 40587) % 47482 < 47482 = mod-lt (day - 40587) (lit< tt) in
    record { day = 40587 + (day - 40587) % 47482; micros = micros % 86400000000; in_calendar = (omega arith, omega arith, mod-lt micros (lit< tt)) }

-- the instant of a pair, or the refusal of one outside the calendar
abbrev pub instant_if : ℕ → ℕ → Result Instant Refusal
instant_if day micros = cond (in_calendar day micros) (Ok (instant_of day micros)) (Err OutsideCalendar)

-- the day of an instant is one of the calendar's
pub day_of_instant : (i : Instant) → day_exists i.day ≡ true
day_of_instant i = and_from _ _ (le-leb 40587 i.day i.in_calendar.0) (le-leb i.day 88068 i.in_calendar.1)

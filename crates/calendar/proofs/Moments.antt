use Rattle.std.proofs.Common.{◌≡◌, ℕ, ◌<◌, ◌≤◌, true, ◌&&◌, ltb, leb, Ok, sym, ap, arith, rules}
use mathlib.Core.HLevel.{is_prop→PathP}
use native.Mathlib.Bridge.{le_prop}
use Rattle.std.proofs.lemmas.Bool.{le-leb, lt-ltb, and_from, and_parts, leb-true, ltb-true}
use Rattle.calendar.specs.declared.instant.Instant.{Instant}
use Rattle.calendar.specs.Order.{InstantsInOrder}
use Rattle.calendar.specs.Instants.{moment, in_calendar, instant_of, instant_if}

-- an instant is its day and its microseconds
pub same_instant : (i j : Instant) → i.day ≡ j.day → i.micros ≡ j.micros → i ≡ j
same_instant i j d m =
    let low = is_prop→PathP (λ k. 40587 ≤ d k) (λ k. le_prop) i.in_calendar.0 j.in_calendar.0 in
    let high = is_prop→PathP (λ k. d k ≤ 88068) (λ k. le_prop) i.in_calendar.1 j.in_calendar.1 in
    let short = is_prop→PathP (λ k. m k < 86400000000) (λ k. le_prop) i.in_calendar.2 j.in_calendar.2 in
    λ k. record { day = d k; micros = m k; in_calendar = (low k, high k, short k) }

pub in_calendar_lem : (day micros : ℕ) → 40587 ≤ day → day ≤ 88068 → micros < 86400000000 → in_calendar day micros ≡ true
in_calendar_lem day micros l h s = and_from _ _ (le-leb 40587 day l) (and_from _ _ (le-leb day 88068 h) (lt-ltb micros 86400000000 s))

-- what the test says
pub calendar_bounds : (day micros : ℕ) → in_calendar day micros ≡ true → (40587 ≤ day) × (day ≤ 88068) × (micros < 86400000000)
calendar_bounds day micros h =
    let p = and_parts (leb 40587 day) (leb day 88068 && ltb micros 86400000000) h in
    let q = and_parts (leb day 88068) (ltb micros 86400000000) p.1 in
    (leb-true 40587 day p.0, leb-true day 88068 q.0, ltb-true micros 86400000000 q.1)

-- a pair of the calendar is that of its instant
pub instant_of_pair : (day micros : ℕ) → in_calendar day micros ≡ true → ((instant_of day micros).day ≡ day) × ((instant_of day micros).micros ≡ micros)
instant_of_pair day micros h = let b = calendar_bounds day micros h in (omega arith, omega arith)

pub instant_of_self : (i : Instant) → i ≡ instant_of i.day i.micros
instant_of_self i =
    let b = i.in_calendar in
    let e = instant_of_pair i.day i.micros (in_calendar_lem i.day i.micros b.0 b.1 b.2) in
    same_instant i (instant_of i.day i.micros) (sym e.0) (sym e.1)

-- an instant is what its own pair gives
pub instant_if_self : (i : Instant) → Ok i ≡ instant_if i.day i.micros
instant_if_self i =
    let b = i.in_calendar in
    rw (in_calendar_lem i.day i.micros b.0 b.1 b.2) (ap Ok (instant_of_self i))

pub moment_same : (i j : Instant) → moment i ≡ moment j → i ≡ j
moment_same i j e = let a = i.in_calendar in let b = j.in_calendar in same_instant i j (omega arith) (omega arith)

pub moment_bounds : (i : Instant) → (3506716800000000 ≤ moment i) × (moment i < 7609161600000000)
moment_bounds i = let b = i.in_calendar in (omega arith, omega arith)

-- the order of instants is that of their moments
pub order_of_moments : InstantsInOrder
order_of_moments i j = search rules

-- The instants before a moment are those not after the microsecond before it.
use Rattle.std.proofs.Common.{◌≡◌, ℕ, ◌-◌, ◌/◌, ◌%◌, ◌<◌, ◌≤◌, Bool, true, false, cond, List, [], ◌∷◌, Ok, Err, sym, refl, ap, ◌∙◌, inl, inr, arith}
use Rattle.std.proofs.lemmas.Bool.{cases_lt, lt-ltb, le-ltb, le-leb, lt-leb}
use Rattle.refusal.specs.declared.Refusal.{Refusal}
use Rattle.refusal.specs.declared.Refusal.TheVariants.{OutsideCalendar}
use Rattle.calendar.specs.declared.instant.Instant.{Instant}
use Rattle.calendar.specs.Instants.{moment, in_calendar, instant_of, instant_if}
use Rattle.calendar.proofs.Moments.{in_calendar_lem, instant_of_pair, moment_bounds}
use Rattle.tables.specs.Lines.{not_after, earlier}

pub earlier_is : (ts : List Instant) (m : ℕ) → 0 < m → not_after ts (m - 1) ≡ earlier ts m
earlier_is [] m h = refl
earlier_is (t ∷ ts) m h =
    let r = earlier_is ts m h in
    elim (cases_lt (moment t) m) [
      | inl l ↦ rw (le-leb (moment t) (m - 1) (omega arith), lt-ltb (moment t) m l, r)
      | inr g ↦ rw (lt-leb (moment t) (m - 1) (omega arith), le-ltb (moment t) m g, r)
    ]

none_earlier : (ts : List Instant) (m : ℕ) → m ≤ 3506716800000000 → earlier ts m ≡ 0
none_earlier [] m h = refl
none_earlier (t ∷ ts) m h =
    let b = moment_bounds t in
    rw (le-ltb (moment t) m (let a = b.0 in omega arith), none_earlier ts m h)

split_at : (m : ℕ) (b : Bool) (i : Instant) → b ≡ in_calendar (m / 86400000000) (m % 86400000000) → Ok i ≡ cond b (Ok (instant_of (m / 86400000000) (m % 86400000000))) (Err OutsideCalendar) → moment i ≡ m
split_at m true i e q =
    let p = instant_of_pair (m / 86400000000) (m % 86400000000) (sym e) in
    let s : i ≡ instant_of (m / 86400000000) (m % 86400000000) = cc in
    let d = ap (λ (j : Instant). j.day) s ∙ p.0 in
    let u = ap (λ (j : Instant). j.micros) s ∙ p.1 in
    omega arith
split_at m false i e q = absurd (cc)

-- the instant of a moment is at that moment
pub split_moment : (m : ℕ) (i : Instant) → Ok i ≡ instant_if (m / 86400000000) (m % 86400000000) → moment i ≡ m
split_moment m i q = split_at m (in_calendar (m / 86400000000) (m % 86400000000)) i refl q

-- only what is before the first instant of the calendar is refused
pub split_first : (i : Instant) (e : Refusal) → Err e ≡ instant_if ((moment i - 1) / 86400000000) ((moment i - 1) % 86400000000) → moment i ≤ 3506716800000000
split_first i e q =
    let m = moment i in
    let b = moment_bounds i in
    elim (cases_lt 3506716800000000 m) [
      | inl l ↦
          let c = in_calendar_lem ((m - 1) / 86400000000) ((m - 1) % 86400000000) (let x = b.1 in omega arith) (let x = b.1 in omega arith) (omega arith) in
          let r = rw c at q in absurd (cc)
      | inr g ↦ g
    ]

pub earlier_first : (ts : List Instant) (i : Instant) (e : Refusal) → Err e ≡ instant_if ((moment i - 1) / 86400000000) ((moment i - 1) % 86400000000) → 0 ≡ earlier ts (moment i)
earlier_first ts i e q = sym (none_earlier ts (moment i) (split_first i e q))

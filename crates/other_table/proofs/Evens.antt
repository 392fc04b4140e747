use Rattle.std.proofs.Common.{◌≡◌, ℕ, zero, suc, ◌+◌, ◌*◌, ◌/◌, ◌%◌, ◌<◌, ◌≤◌, true, length, pos, None, Ok, Err, Result, refl, ap, mul-le-mul_right, suc-mul, zero-mul, arith}
use Rattle.std.proofs.lemmas.Bool.{and_from, lt-ltb}
use Rattle.refusal.specs.declared.Refusal.{Refusal}
use Rattle.calendar.specs.declared.instant.Instant.{Instant}
use Rattle.calendar.specs.Instants.{moment, in_calendar, instant_of, instant_if}
use Rattle.calendar.proofs.Moments.{in_calendar_lem, instant_of_pair}
use Rattle.model.specs.declared.Row.{Row}
use Rattle.model.specs.declared.Vector.{Vector}
use Rattle.model.specs.declared.LeapFlag.TheVariants.{NoLeap}
use Rattle.tables.specs.Lines.{place, next_after, ascends}
use Rattle.other_table.specs.EvenRows.{row_at, rows_from}

inside : (m : ℕ) → 3506716800000000 ≤ m → m < 7609161600000000 → in_calendar (m / 86400000000) (m % 86400000000) ≡ true
inside m l h = in_calendar_lem (m / 86400000000) (m % 86400000000) (omega arith) (omega arith) (omega arith)

moment_at_lem : (m : ℕ) → 3506716800000000 ≤ m → m < 7609161600000000 → moment (row_at m).at ≡ m
moment_at_lem m l h = let p = instant_of_pair (m / 86400000000) (m % 86400000000) (inside m l h) in rw (p.0, p.1) (omega arith)

pub length_from : (m step n : ℕ) → length (rows_from m step n) ≡ n
length_from m step zero = refl
length_from m step (suc n) = ap suc (length_from (m + step) step n)

place_from : (m step n i : ℕ) → i < n → Ok (row_at (m + i * step)) ≡ place (rows_from m step n) i
place_from m step zero i h = absurd (omega arith)
place_from m step (suc n) zero h = let z = zero-mul step in let e : m + zero * step ≡ m = omega arith in rw e
place_from m step (suc n) (suc i) h =
    let z = suc-mul i step in
    let e : m + suc i * step ≡ m + step + i * step = omega arith in
    rw e (place_from (m + step) step n i (omega arith))

next_from : (m step n : ℕ) → 3506716800000000 ≤ m → 0 < step → m + step + n * step < 7609161600000000 → next_after (row_at m) (rows_from (m + step) step n) ≡ true
next_from m step zero l s h = refl
next_from m step (suc n) l s h =
    let a = moment_at_lem m l (omega arith) in
    let b = moment_at_lem (m + step) (omega arith) (omega arith) in
    lt-ltb (moment (row_at m).at) (moment (row_at (m + step)).at) (omega arith)

pub ascends_from : (m step n : ℕ) → 3506716800000000 ≤ m → 0 < step → m + n * step < 7609161600000000 → ascends (rows_from m step n) ≡ true
ascends_from m step zero l s h = refl
ascends_from m step (suc n) l s h =
    let z = suc-mul n step in
    let b : m + step + n * step < 7609161600000000 = omega arith in
    and_from (next_after (row_at m) (rows_from (m + step) step n)) (ascends (rows_from (m + step) step n)) (next_from m step n l s b) (ascends_from (m + step) step n (omega arith) s b)

-- a number of the table is a moment of the calendar
pub within : (m step n i : ℕ) → i < n → m + n * step < 7609161600000000 → m + i * step < 7609161600000000
within m step n i h l = let p : i * step ≤ n * step = mul-le-mul_right step (omega arith) in omega arith

-- what the code reads
pub read_err : (m i step n : ℕ) (e : Refusal) → i < n → 3506716800000000 ≤ m → m + n * step < 7609161600000000
    → Err e ≡ instant_if ((m + i * step) / 86400000000) ((m + i * step) % 86400000000) → ⊥
read_err m i step n e h l b r =
    let w = within m step n i h b in
    let t = inside (m + i * step) (omega arith) (omega arith) in
    let k = rw t at r in cc

zeros : (v : Vector) → v.x ≡ pos 0 → v.y ≡ pos 0 → v.z ≡ pos 0 → v ≡ record { x = pos 0; y = pos 0; z = pos 0 }
zeros v a b c =
    let e : ◌≡◌ {A = Vector} (record { x = v.x; y = v.y; z = v.z }) (record { x = pos 0; y = pos 0; z = pos 0 }) = rw (a, b, c) refl in
    e

pub read_ok : (m i step n : ℕ) (at : Instant) (blank : Row) → (blank.flag ≡ NoLeap) × (blank.position.x ≡ pos 0) × (blank.position.y ≡ pos 0) × (blank.position.z ≡ pos 0) × (blank.velocity ≡ None) → i < n → 3506716800000000 ≤ m → m + n * step < 7609161600000000
    → Ok at ≡ instant_if ((m + i * step) / 86400000000) ((m + i * step) % 86400000000)
    → ◌≡◌ {A = Result Row Refusal} (Ok (record { at = at; flag = blank.flag; position = blank.position; velocity = blank.velocity })) (place (rows_from m step n) i)
read_ok m i step n at blank z h l b r =
    let w = within m step n i h b in
    let t = inside (m + i * step) (omega arith) (omega arith) in
    let e : at ≡ instant_of ((m + i * step) / 86400000000) ((m + i * step) % 86400000000) = let k = rw t at r in cc in
    rw (e, z.0, zeros blank.position z.1 z.2 z.3, z.4) (place_from m step n i h)

use Rattle.std.proofs.Common.{◌≡◌, ℕ, ◌+◌, ◌-◌, ◌<◌, ◌≤◌, true, false, ltb, List, map, length, get_or, take, drop, Ok, Err, sym, ap, ◌∙◌, inl, inr, arith}
use Rattle.std.proofs.lemmas.List.{length-map, length-take-le, length-drop, get_or-map, get_or-take, get_or-drop}
use Rattle.std.proofs.lemmas.Bool.{ltb-false, cases_Bool}
use Rattle.refusal.specs.declared.Refusal.TheVariants.{OutsideCalendar}
use Rattle.calendar.specs.declared.instant.Instant.{Instant}
use Rattle.calendar.specs.Instants.{moment, in_calendar, instant_of}
use Rattle.model.specs.declared.Row.{Row}
use Rattle.model.specs.declared.LeapFlag.{LeapFlag}
use Rattle.tables.specs.Lines.{time_of, not_after}
use Rattle.tables.specs.Windows.{flag_of, same_flags, window_at, window_of, window_if}
use Rattle.tables.proofs.Flags.{same_flags_at}

-- an answer: ten rows stand there, and they have the same flag
answer_at : (fs : List LeapFlag) (j f : ℕ) → window_at fs j ≡ Ok f → (f + 10 ≤ length fs) × (same_flags (take 10 (drop f fs)) ≡ true)
answer_at fs j f e =
    elim (cases_Bool (ltb j 5)) [
      | inl a ↦ let q = rw a at e in absurd (cc)
      | inr a ↦ elim (cases_Bool (ltb (length fs) (j + 5))) [
        | inl b ↦ let q = rw (a, b) at e in absurd (cc)
        | inr b ↦ elim (cases_Bool (same_flags (take 10 (drop (j - 5) fs)))) [
          | inl s ↦
              let q = rw (a, b, s) at e in
              let v : j - 5 ≡ f = cc in
              let x = ltb-false j 5 a in
              let y = ltb-false (length fs) (j + 5) b in
              (omega arith, ap (λ (n : ℕ). same_flags (take 10 (drop n fs))) (sym v) ∙ s)
          | inr s ↦ let q = rw (a, b, s) at e in absurd (cc)
        ]
      ]
    ]

pub window_fits : (rs : List Row) (at : Instant) (f : ℕ) → window_of rs at ≡ Ok f → f + 10 ≤ length rs
window_fits rs at f e =
    let a = answer_at (map flag_of rs) (not_after (map time_of rs) (moment at)) f e in
    let n = length-map rs flag_of in
    omega (arith, a.0)

pub window_same_flags : (rs : List Row) (at : Instant) (f : ℕ) → window_of rs at ≡ Ok f → same_flags (take 10 (drop f (map flag_of rs))) ≡ true
window_same_flags rs at f e = (answer_at (map flag_of rs) (not_after (map time_of rs) (moment at)) f e).1

-- any two of the ten rows have the same flag
pub window_flags : (rs : List Row) (at : Instant) (f : ℕ) → window_of rs at ≡ Ok f
    → (j k : ℕ) (d : Row) → j < 10 → k < 10 → (get_or rs (f + j) d).flag ≡ (get_or rs (f + k) d).flag
window_flags rs at f e j k d p q =
    let l = window_fits rs at f e in
    let n = length-map rs flag_of in
    let m : length (take 10 (drop f (map flag_of rs))) ≡ 10 = length-take-le 10 (drop f (map flag_of rs)) (let x = length-drop f (map flag_of rs) in omega arith) in
    let at_place : (i : ℕ) → i < 10 → get_or (take 10 (drop f (map flag_of rs))) i d.flag ≡ (get_or rs (f + i) d).flag =
    λ i h. get_or-take 10 (drop f (map flag_of rs)) i d.flag h ∙ get_or-drop f (map flag_of rs) i d.flag ∙ get_or-map flag_of rs (f + i) d d.flag (omega arith) in
    sym (at_place j p) ∙ same_flags_at (take 10 (drop f (map flag_of rs))) (window_same_flags rs at f e) j k d.flag (omega arith) (omega arith) ∙ at_place k q

-- a window depends only on the instants and the flags of the rows
pub window_by : (rs qs : List Row) (at : Instant) → map time_of rs ≡ map time_of qs → map flag_of rs ≡ map flag_of qs → window_of rs at ≡ window_of qs at
window_by rs qs at t f = rw (t, f)

-- the same for a day and microseconds: an answer is that of an instant of the calendar
pub window_if_in : (rs : List Row) (day micros : ℕ) → in_calendar day micros ≡ true → window_if rs day micros ≡ window_of rs (instant_of day micros)
window_if_in rs day micros h = rw h

pub window_if_out : (rs : List Row) (day micros : ℕ) → in_calendar day micros ≡ false → window_if rs day micros ≡ Err OutsideCalendar
window_if_out rs day micros h = rw h

pub window_if_answer : (rs : List Row) (day micros f : ℕ) → window_if rs day micros ≡ Ok f → window_of rs (instant_of day micros) ≡ Ok f
window_if_answer rs day micros f e =
    elim (cases_Bool (in_calendar day micros)) [
      | inl t ↦ rw t at e
      | inr n ↦ let q = rw n at e in absurd (cc)
    ]

pub window_if_fits : (rs : List Row) (day micros f : ℕ) → window_if rs day micros ≡ Ok f → f + 10 ≤ length rs
window_if_fits rs day micros f e = window_fits rs (instant_of day micros) f (window_if_answer rs day micros f e)

pub window_if_flags : (rs : List Row) (day micros f : ℕ) → window_if rs day micros ≡ Ok f
    → (j k : ℕ) (d : Row) → j < 10 → k < 10 → (get_or rs (f + j) d).flag ≡ (get_or rs (f + k) d).flag
window_if_flags rs day micros f e = window_flags rs (instant_of day micros) f (window_if_answer rs day micros f e)

use Rattle.std.proofs.Common.{◌≡◌, ℕ, zero, suc, ◌+◌, ◌<◌, ◌≤◌, true, false, cond, leb, List, [], ◌∷◌, map, length, get_or, Ok, refl, ap, ◌∙◌, inl, inr, arith}
use Rattle.std.proofs.lemmas.List.{length-map, get_or-map}
use Rattle.std.proofs.lemmas.Bool.{le-leb, lt-leb, cases_lt, lt-ltb, ltb-true, and_parts, and_from}
use Rattle.calendar.specs.declared.instant.Instant.{Instant}
use Rattle.calendar.specs.Instants.{moment}
use Rattle.model.specs.declared.Row.{Row}
use Rattle.tables.specs.Lines.{time_of, Ascending, place, not_after, next_after, ascends}
use Rattle.tables.proofs.Places.{place_read}

none_after : (ts : List Instant) (a : ℕ) → ((k : ℕ) (d : Instant) → k < length ts → a < moment (get_or ts k d)) → not_after ts a ≡ 0
none_after [] a h = refl
none_after (t ∷ ts) a h =
    let e = lt-leb (moment t) a (h 0 t (omega arith)) in
    let r = none_after ts a (λ k d l. h (suc k) d (omega arith)) in
    rw (e, r)

-- the place where the instants pass `a` is the number of those not after it
pub not_after_at : (ts : List Instant) (a j : ℕ) → j ≤ length ts
    → ((k : ℕ) (d : Instant) → k < j → moment (get_or ts k d) ≤ a)
    → ((k : ℕ) (d : Instant) → j ≤ k → k < length ts → a < moment (get_or ts k d))
    → not_after ts a ≡ j
not_after_at ts a zero l b h = none_after ts a (λ k d. h k d (omega arith))
not_after_at [] a (suc j) l b h = omega arith
not_after_at (t ∷ ts) a (suc j) l b h =
    let e = le-leb (moment t) a (b 0 t (omega arith)) in
    let r = not_after_at ts a j (omega arith) (λ k d m. b (suc k) d (omega arith)) (λ k d m n. h (suc k) d (omega arith) (omega arith)) in
    rw (e, r) (omega arith)

pub not_after_le : (ts : List Instant) (a : ℕ) → not_after ts a ≤ length ts
not_after_le [] a = omega arith
not_after_le (t ∷ ts) a =
    let h = not_after_le ts a in
    elim (leb (moment t) a) as (λ b. cond b 1 0 + not_after ts a ≤ suc (length ts)) [ true ↦ omega arith | false ↦ omega arith ]

-- the instants up to one that is not after `a` are not after it either
pub low_more : (ts : List Instant) (a m n : ℕ) (x : Instant) → Ascending ts → m < length ts → Ok x ≡ place ts m → moment x ≤ a → n ≤ m + 1
    → (k : ℕ) (d : Instant) → k < n → moment (get_or ts k d) ≤ a
low_more ts a m n x up l p h nm k d q =
    let e = ap moment (place_read ts m x d p) in
    elim (cases_lt k m) [
      | inl lt ↦ omega (arith, up k m d lt l)
      | inr ge ↦ let s : k ≡ m = omega arith in rw s (omega arith)
    ]

-- the instants from one that is after `a` are after it too
pub high_more : (ts : List Instant) (a m : ℕ) (x : Instant) → Ascending ts → m < length ts → Ok x ≡ place ts m → a < moment x
    → (k : ℕ) (d : Instant) → m ≤ k → k < length ts → a < moment (get_or ts k d)
high_more ts a m x up l p h k d q r =
    let e = ap moment (place_read ts m x d p) in
    elim (cases_lt m k) [
      | inl lt ↦ omega (arith, up m k d lt r)
      | inr ge ↦ let s : k ≡ m = omega arith in rw s (omega arith)
    ]

-- the neighbour-wise test tells of all pairs
first_below : (r : Row) (rs : List Row) → ascends (r ∷ rs) ≡ true → (j : ℕ) (d : Instant) → j < length (map time_of rs) → moment r.at < moment (get_or (map time_of rs) j d)
first_below r [] h j d l = absurd (omega arith)
first_below r (s ∷ rs) h zero d l = ltb-true (moment r.at) (moment s.at) (and_parts (next_after r (s ∷ rs)) (ascends (s ∷ rs)) h).0
first_below r (s ∷ rs) h (suc j) d l =
    let p = and_parts (next_after r (s ∷ rs)) (ascends (s ∷ rs)) h in
    let a = ltb-true (moment r.at) (moment s.at) p.0 in
    let b = first_below s rs p.1 j d (omega arith) in
    omega arith

pub ascends_up : (rs : List Row) → ascends rs ≡ true → Ascending (map time_of rs)
ascends_up [] h i j d p q = absurd (omega arith)
ascends_up (r ∷ rs) h zero zero d p q = absurd (omega arith)
ascends_up (r ∷ rs) h zero (suc j) d p q = first_below r rs h j d (omega arith)
ascends_up (r ∷ rs) h (suc i) zero d p q = absurd (omega arith)
ascends_up (r ∷ rs) h (suc i) (suc j) d p q = ascends_up rs (and_parts (next_after r rs) (ascends rs) h).1 i j d (omega arith) (omega arith)

next_above : (r : Row) (rs : List Row) → Ascending (map time_of (r ∷ rs)) → next_after r rs ≡ true
next_above r [] up = refl
next_above r (s ∷ rs) up = lt-ltb (moment r.at) (moment s.at) (up 0 1 r.at (omega arith) (omega arith))

pub up_ascends : (rs : List Row) → Ascending (map time_of rs) → ascends rs ≡ true
up_ascends [] up = refl
up_ascends (r ∷ rs) up =
    and_from (next_after r rs) (ascends rs) (next_above r rs up)
    (up_ascends rs (λ i j d p q. up (suc i) (suc j) d (omega arith) (omega arith)))

-- the order of a table's instants, read from its rows
pub up_lt : (rs : List Row) → Ascending (map time_of rs) → (k m : ℕ) (d : Row) → k < m → m < length rs → moment (get_or rs k d).at < moment (get_or rs m d).at
up_lt rs up k m d h l =
    let n = length-map rs time_of in
    let lk : k < length rs = omega arith in
    let a = ap moment (get_or-map time_of rs k d d.at lk) in
    let b = ap moment (get_or-map time_of rs m d d.at l) in
    let q = up k m d.at h (omega arith) in
    omega arith

pub up_le : (rs : List Row) → Ascending (map time_of rs) → (k m : ℕ) (d : Row) → k ≤ m → m < length rs → moment (get_or rs k d).at ≤ moment (get_or rs m d).at
up_le rs up k m d h l =
    elim (cases_lt k m) [
      | inl lt ↦ let q = up_lt rs up k m d lt l in omega arith
      | inr ge ↦ let s : k ≡ m = omega arith in rw s (omega arith)
    ]

pub same_length : (ts : List Instant) (rs : List Row) → ts ≡ map time_of rs → length ts ≡ length rs
same_length ts rs e = ap length e ∙ length-map rs time_of

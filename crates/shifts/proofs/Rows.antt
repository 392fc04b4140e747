use Rattle.std.proofs.Common.{◌≡◌, ℕ, zero, suc, ◌-◌, ◌/◌, ◌%◌, ◌<◌, ◌≤◌, Bool, true, false, cond, ◌&&◌, List, [], ◌∷◌, map, length, get_or, ℤ, pos, negsuc, is_ok, Ok, Err, Result, sym, refl, ap, ◌∙◌, inl, inr, add-zero, arith}
use Rattle.std.proofs.lemmas.List.{length-map, get_or-map}
use Rattle.std.proofs.lemmas.Bool.{and_parts, and_from, cases_Bool, both_ways}
use Rattle.refusal.specs.declared.Refusal.{Refusal}
use Rattle.refusal.specs.declared.Refusal.TheVariants.{OutsideCalendar}
use Rattle.calendar.specs.declared.instant.Instant.{Instant}
use Rattle.calendar.specs.Instants.{moment}
use Rattle.calendar.proofs.Moments.{in_calendar_lem, calendar_bounds, instant_of_pair, moment_bounds, moment_same}
use Rattle.model.specs.declared.Row.{Row}
use Rattle.tables.specs.declared.lines.RowAndEnds.{RowAndEnds}
use Rattle.tables.specs.Ends.{EndsRead}
use Rattle.tables.specs.Lines.{time_of, place, Ascending}
use Rattle.tables.proofs.Places.{place_read, place_within, place_map, place_map_err}
use Rattle.tables.proofs.Orders.{up_lt, up_le, same_length}
use Rattle.shifts.specs.Shifts.{moved, stays, move_instant, move_row, move_row_if, read_stays, move_read, move_read_if, all_stay, shift_rows}

-- moments moved by the same shift keep their order
pub moved_le : (s : ℤ) (a b : ℕ) → a ≤ b → moved s a ≤ moved s b
moved_le (pos n) a b h = omega arith
moved_le (negsuc n) a b h = omega arith

pub moved_lt : (s : ℤ) (a b : ℕ) → 0 < moved s a → a < b → moved s a < moved s b
moved_lt (pos n) a b p h = omega arith
moved_lt (negsuc n) a b p h = omega arith

-- a moment that stays is the moment of the moved instant
pub stays_bounds : (s : ℤ) (i : Instant) → stays s i ≡ true → (3506716800000000 ≤ moved s (moment i)) × (moved s (moment i) < 7609161600000000)
stays_bounds s i h =
    let b = calendar_bounds (moved s (moment i) / 86400000000) (moved s (moment i) % 86400000000) h in
    (omega arith, omega arith)

bounds_stay : (s : ℤ) (i : Instant) → 3506716800000000 ≤ moved s (moment i) → moved s (moment i) < 7609161600000000 → stays s i ≡ true
bounds_stay s i l h = in_calendar_lem (moved s (moment i) / 86400000000) (moved s (moment i) % 86400000000) (omega arith) (omega arith) (omega arith)

pub moment_moved : (s : ℤ) (i : Instant) → stays s i ≡ true → moment (move_instant s i) ≡ moved s (moment i)
moment_moved s i h =
    let p = instant_of_pair (moved s (moment i) / 86400000000) (moved s (moment i) % 86400000000) h in
    rw (p.0, p.1) (omega arith)

-- an instant between two that stay stays
stay_between : (s : ℤ) (a i b : Instant) → moment a ≤ moment i → moment i ≤ moment b → stays s a ≡ true → stays s b ≡ true → stays s i ≡ true
stay_between s a i b h l p q =
    let x = stays_bounds s a p in
    let y = stays_bounds s b q in
    let u = moved_le s (moment a) (moment i) h in
    let v = moved_le s (moment i) (moment b) l in
    bounds_stay s i (omega arith) (omega arith)

stay_at : (s : ℤ) (rs : List Row) (k : ℕ) (d : Row) → all_stay s rs ≡ true → k < length rs → stays s (get_or rs k d).at ≡ true
stay_at s [] k d h l = absurd (omega arith)
stay_at s (r ∷ rs) zero d h l = (and_parts (stays s r.at) (all_stay s rs) h).0
stay_at s (r ∷ rs) (suc k) d h l = stay_at s rs k d (and_parts (stays s r.at) (all_stay s rs) h).1 (omega arith)

stay_from : (s : ℤ) (rs : List Row) → ((k : ℕ) (d : Row) → k < length rs → stays s (get_or rs k d).at ≡ true) → all_stay s rs ≡ true
stay_from s [] h = refl
stay_from s (r ∷ rs) h = and_from (stays s r.at) (all_stay s rs) (h 0 r (omega arith)) (stay_from s rs (λ k d l. h (suc k) d (omega arith)))

stay_place : (s : ℤ) (rs : List Row) (i : ℕ) (x : Row) → all_stay s rs ≡ true → Ok x ≡ place rs i → stays s x.at ≡ true
stay_place s rs i x a p = ap (λ (r : Row). stays s r.at) (sym (place_read rs i x x p)) ∙ stay_at s rs i x a (place_within rs i x p)

-- in rows in order the ends decide
ends_stay : (s : ℤ) (rs : List Row) (i : ℕ) (read : RowAndEnds) → EndsRead rs i read → stays s read.first.at ≡ true → stays s read.last.at ≡ true → all_stay s rs ≡ true
ends_stay s rs i read k p q =
    stay_from s rs (λ j d l.
    let a = ap (λ (r : Row). moment r.at) (place_read rs 0 read.first d k.first) in
    let b = ap (λ (r : Row). moment r.at) (place_read rs (length rs - 1) read.last d k.last) in
    let lo = up_le rs k.up 0 j d (omega arith) l in
    let hi = up_le rs k.up j (length rs - 1) d (omega arith) (omega arith) in
    stay_between s read.first.at (get_or rs j d).at read.last.at (omega arith) (omega arith) p q)

pub read_stays_lem : (s : ℤ) (rs : List Row) (i : ℕ) (read : RowAndEnds) → EndsRead rs i read → read_stays s read ≡ all_stay s rs
read_stays_lem s rs i read k =
    elim (cases_Bool (all_stay s rs)) [
      | inl a ↦ and_from (stays s read.row.at) (stays s read.first.at && stays s read.last.at) (stay_place s rs i read.row a k.row)
          (and_from (stays s read.first.at) (stays s read.last.at) (stay_place s rs 0 read.first a k.first) (stay_place s rs (length rs - 1) read.last a k.last)) ∙ sym a
      | inr b ↦ elim (cases_Bool (read_stays s read)) [
        | inl t ↦
            let p = and_parts (stays s read.first.at) (stays s read.last.at) (and_parts (stays s read.row.at) (stays s read.first.at && stays s read.last.at) t).1 in
            absurd (both_ways (all_stay s rs) b (ends_stay s rs i read k p.0 p.1))
        | inr f ↦ f ∙ sym b
      ]
    ]

pub none_stay : (s : ℤ) (rs : List Row) (e : Refusal) → Err e ≡ place rs 0 → true ≡ all_stay s rs
none_stay s [] e p = refl
none_stay s (r ∷ rs) e p = absurd (cc)

-- the shape of moved rows
pub length_shifted : (s : ℤ) (rs : List Row) → length (shift_rows s rs) ≡ length rs
length_shifted s rs = elim (all_stay s rs) as (λ b. length (cond b (map (move_row s) rs) rs) ≡ length rs) [ true ↦ length-map rs (move_row s) | false ↦ refl ]

pub shifted_count : (s : ℤ) (ts : List Instant) (rs : List Row) (n : ℕ) → ts ≡ map time_of rs → n ≡ length ts → n ≡ length (map time_of (shift_rows s rs))
shifted_count s ts rs n e c = c ∙ same_length ts rs e ∙ sym (length-map (shift_rows s rs) time_of ∙ length_shifted s rs)

pub shifted_err : (s : ℤ) (rs : List Row) (i : ℕ) (r : Refusal) → Err r ≡ place rs i → Err r ≡ place (shift_rows s rs) i
shifted_err s rs i r p = elim (all_stay s rs) as (λ b. Err r ≡ place (cond b (map (move_row s) rs) rs) i) [ true ↦ place_map_err (move_row s) rs i r p | false ↦ p ]

shifted_ok : (s : ℤ) (rs : List Row) (i : ℕ) (x : Row) → all_stay s rs ≡ true → Ok x ≡ place rs i → Ok (move_row s x) ≡ place (shift_rows s rs) i
shifted_ok s rs i x a p = rw a (place_map (move_row s) rs i x p)

moment_at_lem : (s : ℤ) (rs : List Row) → all_stay s rs ≡ true → (k : ℕ) (d : Row) (e : Instant) → k < length rs
    → moment (get_or (map time_of (map (move_row s) rs)) k e) ≡ moved s (moment (get_or rs k d).at)
moment_at_lem s rs a k d e l =
    let n = length-map rs (move_row s) in
    let l' : k < length (map (move_row s) rs) = omega arith in
    ap moment (get_or-map time_of (map (move_row s) rs) k (move_row s d) e l')
    ∙ ap (λ (r : Row). moment r.at) (get_or-map (move_row s) rs k d (move_row s d) l)
    ∙ moment_moved s (get_or rs k d).at (stay_at s rs k d a l)

pub up_shifted : (s : ℤ) (rs : List Row) → Ascending (map time_of rs) → Ascending (map time_of (shift_rows s rs))
up_shifted s [] up = up
up_shifted s (r ∷ rs) up =
    elim (cases_Bool (all_stay s (r ∷ rs))) [
      | inl a ↦ rw a (λ i j d h l.
          let n = length-map (map (move_row s) (r ∷ rs)) time_of in
          let n' = length-map (r ∷ rs) (move_row s) in
          let lj : j < length (r ∷ rs) = omega arith in
          let li : i < length (r ∷ rs) = omega arith in
          let p = moment_at_lem s (r ∷ rs) a i r d li in
          let q = moment_at_lem s (r ∷ rs) a j r d lj in
          let b = stays_bounds s (get_or (r ∷ rs) i r).at (stay_at s (r ∷ rs) i r a li) in
          let m = moved_lt s (moment (get_or (r ∷ rs) i r).at) (moment (get_or (r ∷ rs) j r).at) (omega arith) (up_lt (r ∷ rs) up i j r h lj) in
          omega arith)
      | inr b ↦ rw b up
    ]

-- shift 0 moves nothing
zero_stays : (i : Instant) → stays (pos 0) i ≡ true
zero_stays i = let b = moment_bounds i in bounds_stay (pos 0) i (omega arith) (omega arith)

zero_row : (r : Row) → move_row (pos 0) r ≡ r
zero_row r =
    let e = moment_same (move_instant (pos 0) r.at) r.at (moment_moved (pos 0) r.at (zero_stays r.at) ∙ add-zero (moment r.at)) in
    λ k. record { at = e k; flag = r.flag; position = r.position; velocity = r.velocity }

zero_rows : (rs : List Row) → (all_stay (pos 0) rs ≡ true) × (map (move_row (pos 0)) rs ≡ rs)
zero_rows [] = (refl, refl)
zero_rows (r ∷ rs) =
    let h = zero_rows rs in
    (and_from (stays (pos 0) r.at) (all_stay (pos 0) rs) (zero_stays r.at) h.0, ap (λ (x : Row). x ∷ map (move_row (pos 0)) rs) (zero_row r) ∙ ap (λ (l : List Row). r ∷ l) h.1)

pub shift_zero : (rs : List Row) → shift_rows (pos 0) rs ≡ rs
shift_zero rs = let h = zero_rows rs in rw h.0 h.1

-- what the moves answer
pub cond_ok : {X : Type 0} (b : Bool) (x y : X) (e : Refusal) → Ok x ≡ cond b (Ok y) (Err e) → (b ≡ true) × (x ≡ y)
cond_ok true x y e h = (refl, cc)
cond_ok false x y e h = absurd (cc)

pub cond_err : {X : Type 0} (b : Bool) (y : X) (d e : Refusal) → Err d ≡ cond b (Ok y) (Err e) → (b ≡ false) × (d ≡ e)
cond_err true y d e h = absurd (cc)
cond_err false y d e h = (refl, cc)

pub row_moved : (s s' : ℤ) (r x : Row) → s' ≡ s → Ok x ≡ move_row_if s' r → (stays s r.at ≡ true) × (x ≡ move_row s r)
row_moved s s' r x z e = cond_ok (stays s r.at) x (move_row s r) _ (e ∙ ap (λ (v : ℤ). move_row_if v r) z)

pub row_out : (s s' : ℤ) (r : Row) (d : Refusal) → s' ≡ s → Err d ≡ move_row_if s' r → (stays s r.at ≡ false) × (d ≡ OutsideCalendar)
row_out s s' r d z e = cond_err (stays s r.at) (move_row s r) d _ (e ∙ ap (λ (v : ℤ). move_row_if v r) z)

pub read_out : (s : ℤ) (read : RowAndEnds) (d : Refusal) → read_stays s read ≡ false → d ≡ OutsideCalendar → Err d ≡ move_read_if s read
read_out s read d f e = rw (f, e)

pub read_in : (s : ℤ) (read : RowAndEnds) (row first last : Row)
    → (stays s read.row.at ≡ true) × (row ≡ move_row s read.row)
    → (stays s read.first.at ≡ true) × (first ≡ move_row s read.first)
    → (stays s read.last.at ≡ true) × (last ≡ move_row s read.last)
    → ◌≡◌ {A = Result RowAndEnds Refusal} (Ok (record { row = row; first = first; last = last })) (move_read_if s read)
read_in s read row first last p q t = rw (p.0, q.0, t.0, p.1, q.1, t.1)

pub ok_stays : (s s' : ℤ) (rs : List Row) (i : ℕ) (read : RowAndEnds) (got : Result RowAndEnds Refusal) (ok : Bool) → s' ≡ s → EndsRead rs i read
    → got ≡ move_read_if s' read → ok ≡ is_ok got → ok ≡ all_stay s rs
ok_stays s s' rs i read got ok z k e o =
    o ∙ ap is_ok (e ∙ ap (λ (v : ℤ). move_read_if v read) z)
    ∙ elim (read_stays s read) as (λ b. is_ok {E = Refusal} (cond b (Ok (move_read s read)) (Err OutsideCalendar)) ≡ b) [ true ↦ refl | false ↦ refl ]
    ∙ read_stays_lem s rs i read k

-- what a shifted table reads
pub read_moved : (s s' : ℤ) (rs : List Row) (i : ℕ) (read got : RowAndEnds) → s' ≡ s → EndsRead rs i read → Ok got ≡ move_read_if s' read → EndsRead (shift_rows s rs) i got
read_moved s s' rs i read got z k e =
    let p = cond_ok (read_stays s read) got (move_read s read) _ (e ∙ ap (λ (v : ℤ). move_read_if v read) z) in
    let a : all_stay s rs ≡ true = sym (read_stays_lem s rs i read k) ∙ p.0 in
    rw p.1 record {
      row = shifted_ok s rs i read.row a k.row;
      first = shifted_ok s rs 0 read.first a k.first;
      last = shifted_ok s rs (length rs - 1) read.last a k.last ∙ ap (λ (j : ℕ). place (shift_rows s rs) (j - 1)) (sym (length_shifted s rs));
      up = up_shifted s rs k.up;
    }

pub read_kept : (s s' : ℤ) (rs : List Row) (i : ℕ) (read : RowAndEnds) (d : Refusal) → s' ≡ s → EndsRead rs i read → Err d ≡ move_read_if s' read → EndsRead (shift_rows s rs) i read
read_kept s s' rs i read d z k e =
    let f = cond_err (read_stays s read) (move_read s read) d _ (e ∙ ap (λ (v : ℤ). move_read_if v read) z) in
    let a : all_stay s rs ≡ false = sym (read_stays_lem s rs i read k) ∙ f.0 in
    rw a k

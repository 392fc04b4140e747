use Rattle.std.proofs.Common.{◌≡◌, ℕ, zero, suc, ◌+◌, ◌*◌, ◌<◌, Bool, true, false, cond, leb, ◌&&◌, List, [], ◌∷◌, map, length, get_or, drop, ℤ, pos, negsuc, ◌+ℤ◌, nat_abs, Ok, Err, Result, sym, refl, ap, ◌∙◌, inl, inr, arith}
use lib.IntN.{+ℤ_assoc, +ℤ_idr}
use lib.Signed.{le_z}
use Rattle.std.proofs.lemmas.Int.{ints}
use Rattle.std.proofs.lemmas.Bool.{and_parts, and_right, cases_Bool}
use Rattle.std.proofs.lemmas.List.{at_drop_more, length-map}
use Rattle.refusal.specs.declared.Refusal.{Refusal}
use Rattle.refusal.specs.declared.Refusal.TheVariants.{ShiftTooLarge}
use Rattle.calendar.specs.declared.instant.Instant.{Instant}
use Rattle.calendar.specs.Instants.{moment, instant_of}
use Rattle.calendar.proofs.Moments.{instant_of_pair}
use Rattle.model.specs.declared.Row.{Row}
use Rattle.model.specs.declared.LeapFlag.{LeapFlag}
use Rattle.tables.specs.Lines.{time_of, not_after, Ascending, place}
use Rattle.tables.proofs.Orders.{same_length}
use Rattle.tables.specs.Windows.{flag_of, window_at, window_of, window_if}
use Rattle.shifts.specs.Shifts.{moved, stays, move_row, all_stay, shift_rows, accepts, shift_answer}
use Rattle.shifts.specs.Stacks.{piled, total, StackedShifts, all_accepted, sum_of, window_under, AnswersAsBelow}
use Rattle.shifts.proofs.Rows.{stays_bounds, moment_moved, length_shifted, shifted_err, up_shifted, cond_ok, cond_err}

-- how many instants are not after a moment that may lie outside the calendar, as one between two shifts may
abbrev not_after_z : List Instant → ℤ → ℕ
not_after_z [] a = 0
not_after_z (t ∷ ts) a = cond (le_z (pos (moment t)) a) 1 0 + not_after_z ts a

abbrev window_z : List Row → ℤ → Result ℕ Refusal
window_z rs a = window_at (map flag_of rs) (not_after_z (map time_of rs) a)

count_pos : (ts : List Instant) (a : ℕ) → not_after_z ts (pos a) ≡ not_after ts a
count_pos [] a = refl
count_pos (t ∷ ts) a = ap (λ n. cond (leb (moment t) a) 1 0 + n) (count_pos ts a)

window_pos : (rs : List Row) (at : Instant) → window_z rs (pos (moment at)) ≡ window_of rs at
window_pos rs at = ap (window_at (map flag_of rs)) (count_pos (map time_of rs) (moment at))

le_z_add : (x a s : ℤ) → le_z (x +ℤ s) (a +ℤ s) ≡ le_z x a
le_z_add x a s = grind (arith, ints)

pos_moved : (s : ℤ) (m : ℕ) → 0 < moved s m → pos (moved s m) ≡ pos m +ℤ s
pos_moved (pos n) m h = refl
pos_moved (negsuc n) m h = omega (arith, ints)

moment_row : (s : ℤ) (r : Row) → stays s r.at ≡ true → pos (moment (move_row s r).at) ≡ pos (moment r.at) +ℤ s
moment_row s r h =
    let b = stays_bounds s r.at h in
    ap pos (moment_moved s r.at h) ∙ pos_moved s (moment r.at) (omega arith)

-- one shift: counts and flags are those below
count_moved : (s a : ℤ) (rs : List Row) → all_stay s rs ≡ true → not_after_z (map time_of (map (move_row s) rs)) (a +ℤ s) ≡ not_after_z (map time_of rs) a
count_moved s a [] h = refl
count_moved s a (r ∷ rs) h =
    let p = and_parts (stays s r.at) (all_stay s rs) h in
    let e : le_z (pos (moment (move_row s r).at)) (a +ℤ s) ≡ le_z (pos (moment r.at)) a = ap (λ (v : ℤ). le_z v (a +ℤ s)) (moment_row s r p.0) ∙ le_z_add (pos (moment r.at)) a s in
    ap (λ (b : Bool). cond b 1 0 + not_after_z (map time_of (map (move_row s) rs)) (a +ℤ s)) e
    ∙ ap (λ n. cond (le_z (pos (moment r.at)) a) 1 0 + n) (count_moved s a rs p.1)

flags_moved : (s : ℤ) (rs : List Row) → map flag_of (map (move_row s) rs) ≡ map flag_of rs
flags_moved s [] = refl
flags_moved s (r ∷ rs) = ap (λ (fs : List LeapFlag). r.flag ∷ fs) (flags_moved s rs)

shift_one : (s a : ℤ) (rs : List Row) → window_z (shift_rows s rs) (a +ℤ cond (all_stay s rs) s (pos 0)) ≡ window_z rs a
shift_one s a rs =
    elim (cases_Bool (all_stay s rs)) [
      | inl t ↦ rw t (ap (window_at (map flag_of (map (move_row s) rs))) (count_moved s a rs t) ∙ ap (λ (fs : List LeapFlag). window_at fs (not_after_z (map time_of rs) a)) (flags_moved s rs))
      | inr f ↦ rw f (ap (window_z rs) (+ℤ_idr a))
    ]

shift_all : (ss : List ℤ) (a : ℤ) (rs : List Row) → window_z (piled ss rs) (a +ℤ total ss rs) ≡ window_z rs a
shift_all [] a rs = ap (window_z rs) (+ℤ_idr a)
shift_all (s ∷ ss) a rs =
    ap (window_z (shift_rows s (piled ss rs))) (sym (+ℤ_assoc a (total ss rs) (cond (all_stay s (piled ss rs)) s (pos 0))))
    ∙ shift_one s (a +ℤ total ss rs) (piled ss rs)
    ∙ shift_all ss a rs

pub stacked_shifts : StackedShifts
stacked_shifts ss rs at low e =
    sym (window_pos (piled ss rs) at) ∙ ap (window_z (piled ss rs)) e ∙ shift_all ss (pos (moment low)) rs ∙ window_pos rs low

pub stack_answers : (ss : List ℤ) (rs : List Row) (day micros : ℕ) (answer : Result ℕ Refusal) → answer ≡ window_if (piled ss rs) day micros → AnswersAsBelow (total ss rs) rs day micros answer
stack_answers ss rs day micros answer a low c e =
    let p = instant_of_pair day micros c in
    let m : moment (instant_of day micros) ≡ day * 86400000000 + micros = rw (p.0, p.1) in
    a ∙ rw c (stacked_shifts ss rs (instant_of day micros) low (ap pos m ∙ e))

-- shifts that are accepted count in full
total_accepted : (ss : List ℤ) (rs : List Row) → all_accepted ss rs ≡ true → total ss rs ≡ sum_of ss
total_accepted [] rs h = refl
total_accepted (s ∷ ss) rs h =
    let p = and_parts (all_accepted ss rs) (accepts s (piled ss rs)) h in
    let q = and_parts (leb (nat_abs s) 86400000000) (all_stay s (piled ss rs)) p.1 in
    ap (λ (b : Bool). total ss rs +ℤ cond b s (pos 0)) q.1 ∙ ap (λ (t : ℤ). t +ℤ s) (total_accepted ss rs p.0)

pub accepted_answers : (ss : List ℤ) (rs : List Row) (day micros : ℕ) (answer : Result ℕ Refusal) → answer ≡ window_under ss rs day micros
    → all_accepted ss rs ≡ true → AnswersAsBelow (sum_of ss) rs day micros answer
accepted_answers ss rs day micros answer a h low c e =
    stack_answers ss rs day micros answer (a ∙ rw h) low c (e ∙ ap (λ (t : ℤ). pos (moment low) +ℤ t) (sym (total_accepted ss rs h)))

-- one shift set in a table: taken or refused
pub shift_taken : (s s' : ℤ) (rs qs after : List Row) (old new : ℤ) → s' ≡ s → qs ≡ rs → after ≡ qs → Ok tt ≡ shift_answer s' qs → new ≡ cond (accepts s' qs) s' old
    → (accepts s rs ≡ true) × (shift_rows new after ≡ shift_rows s rs)
shift_taken s s' rs qs after old new z q a e n =
    let t = (cond_ok (accepts s' qs) tt tt ShiftTooLarge e).0 in
    let v : new ≡ s = rw t at n ∙ z in
    (ap (λ (x : ℤ). accepts x rs) (sym z) ∙ ap (accepts s') (sym q) ∙ t, ap (λ (x : ℤ). shift_rows x after) v ∙ ap (shift_rows s) (a ∙ q))

pub shift_refused : (s s' : ℤ) (rs qs : List Row) (e : Refusal) → s' ≡ s → qs ≡ rs → Err e ≡ shift_answer s' qs → (accepts s rs ≡ false) × (e ≡ ShiftTooLarge)
shift_refused s s' rs qs e z q a = cond_err (accepts s rs) tt e ShiftTooLarge (a ∙ ap (λ (x : ℤ). shift_answer x qs) z ∙ ap (shift_answer s) q)

-- the answer of a stack whose lowest shift is refused, and that of one whose lowest shift is accepted
pub under_refused : (s : ℤ) (rs : List Row) (day micros : ℕ) (e : Refusal) → (accepts s rs ≡ false) × (e ≡ ShiftTooLarge) → Err e ≡ window_under (s ∷ []) rs day micros
under_refused s rs day micros e q = rw (q.0, q.1)

pub under_one : (s : ℤ) (rs below : List Row) (day micros : ℕ) (answer : Result ℕ Refusal) → (accepts s rs ≡ true) × (below ≡ shift_rows s rs)
    → answer ≡ window_if below day micros → answer ≡ window_under (s ∷ []) rs day micros
under_one s rs below day micros answer q a = a ∙ ap (λ (l : List Row). window_if l day micros) q.1 ∙ rw q.0

-- a number that no row has is none under a stack
pub piled_err : (ss : List ℤ) (rs : List Row) (i : ℕ) (r : Refusal) → Err r ≡ place rs i → Err r ≡ place (piled ss rs) i
piled_err [] rs i r p = p
piled_err (s ∷ ss) rs i r p = shifted_err s (piled ss rs) i r (piled_err ss rs i r p)

-- the shift at place n moves the rows under those below it
pub piled_at : (ss : List ℤ) (rs : List Row) (n : ℕ) (s : ℤ) → n < length ss → s ≡ get_or ss n (pos 0) → shift_rows s (piled (drop (n + 1) ss) rs) ≡ piled (drop n ss) rs
piled_at ss rs n s h e = ap (λ x. shift_rows x (piled (drop (n + 1) ss) rs)) e ∙ sym (at_drop_more (λ l. piled l rs) ss n (pos 0) h)

-- and is taken over them or not
accepted_at : (ss : List ℤ) (rs : List Row) (n : ℕ) (s : ℤ) → n < length ss → s ≡ get_or ss n (pos 0) → (all_accepted (drop (n + 1) ss) rs && accepts s (piled (drop (n + 1) ss) rs)) ≡ all_accepted (drop n ss) rs
accepted_at ss rs n s h e = ap (λ x. all_accepted (drop (n + 1) ss) rs && accepts x (piled (drop (n + 1) ss) rs)) e ∙ sym (at_drop_more (λ l. all_accepted l rs) ss n (pos 0) h)

-- a shift that is refused refuses the stack
refused_below : (k : ℕ) (ss : List ℤ) (rs : List Row) → all_accepted (drop k ss) rs ≡ false → all_accepted ss rs ≡ false
refused_below zero ss rs h = h
refused_below (suc k) [] rs h = h
refused_below (suc k) (s ∷ ss) rs h = ap (λ b. b && accepts s (piled ss rs)) (refused_below k ss rs h)

pub refused_at : (ss : List ℤ) (rs : List Row) (n : ℕ) (s : ℤ) (lower : List ℤ) → n < length ss → s ≡ get_or ss n (pos 0) → lower ≡ drop (n + 1) ss → false ≡ accepts s (piled lower rs) → false ≡ all_accepted ss rs
refused_at ss rs n s lower h e f told =
    let below = drop (n + 1) ss in
    let here : accepts s (piled below rs) ≡ false = ap (λ l. accepts s (piled l rs)) (sym f) ∙ sym told in
    sym (refused_below n ss rs (sym (accepted_at ss rs n s h e) ∙ and_right (all_accepted below rs) (accepts s (piled below rs)) here))

-- the shape of rows under a stack
length_piled : (ss : List ℤ) (rs : List Row) → length (piled ss rs) ≡ length rs
length_piled [] rs = refl
length_piled (s ∷ ss) rs = length_shifted s (piled ss rs) ∙ length_piled ss rs

pub piled_count : (ss : List ℤ) (ts : List Instant) (rs : List Row) (n : ℕ) → ts ≡ map time_of rs → n ≡ length ts → n ≡ length (map time_of (piled ss rs))
piled_count ss ts rs n e c = c ∙ same_length ts rs e ∙ sym (length-map (piled ss rs) time_of ∙ length_piled ss rs)

pub up_piled : (ss : List ℤ) (rs : List Row) → Ascending (map time_of rs) → Ascending (map time_of (piled ss rs))
up_piled [] rs up = up
up_piled (s ∷ ss) rs up = up_shifted s (piled ss rs) (up_piled ss rs up)

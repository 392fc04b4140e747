use Rattle.std.proofs.Common.{◌≡◌, ℕ, ◌+◌, ◌≤◌, Bool, true, false, cond, eqb, List, [], ◌∷◌, ◌++◌, length, Some, sym, refl, ap, ◌∙◌, ⊎_elim, arith}
use Rattle.std.proofs.lemmas.Bool.{cases_Bool, eqb-true, ne_eqb}
use Rattle.model.specs.declared.Row.{Row}
use Rattle.cells.specs.declared.summary.Summary.{Summary}
use Rattle.cells.specs.Cells.{step_seconds, every_step, interval_of, last_of, cells_of, started, extended, extended_by, cells_by, summary_if, summary_with, count_in}

pub extended_by_append : (s : Summary) (rs : List Row) (r : Row) → extended_by s (rs ++ (r ∷ [])) ≡ extended (extended_by s rs) r
extended_by_append s [] r = refl
extended_by_append s (x ∷ rs) r = extended_by_append (extended s x) rs r

pub count_by : (s : Summary) (rs : List Row) → (extended_by s rs).count ≡ s.count + length rs
count_by s [] = omega arith
count_by s (r ∷ rs) = let h = count_by (extended s r) rs in omega arith

pub first_by : (s : Summary) (rs : List Row) → (extended_by s rs).first ≡ s.first
first_by s [] = refl
first_by s (r ∷ rs) = first_by (extended s r) rs

pub last_by : (s : Summary) (rs : List Row) → (extended_by s rs).last ≡ last_of s.last rs
last_by s [] = refl
last_by s (r ∷ rs) = last_by (extended s r) rs

same_choice : (b : Bool) → ◌≡◌ {A = ℕ} (cond b 0 0) 0
same_choice true = refl
same_choice false = refl

-- after two rows or more, the interval stays where every further step has it
interval_on : (s : Summary) (rs : List Row) → 2 ≤ s.count → (extended_by s rs).interval ≡ cond (every_step s.interval s.last rs) s.interval 0
interval_on s [] h = refl
interval_on s (r ∷ rs) h =
    let step = step_seconds s.last r.at in
    let one = ne_eqb s.count 1 (λ e. omega arith) in
    let next = interval_on (extended s r) rs (omega arith) in
    ⊎_elim
    (λ (t : eqb s.interval step ≡ true). let same : (extended s r).interval ≡ s.interval = rw (one, t) (sym (eqb-true s.interval step t)) in
    next ∙ rw (same, t))
    (λ (f : eqb s.interval step ≡ false). let zero : (extended s r).interval ≡ 0 = rw (one, f) in
    next ∙ rw (zero, f) (same_choice (every_step 0 r.at rs)))
    (cases_Bool (eqb s.interval step))

interval_is : (r : Row) (rs : List Row) → (extended_by (started r) rs).interval ≡ interval_of (r ∷ rs)
interval_is r [] = refl
interval_is r (x ∷ rs) = interval_on (extended (started r) x) rs (omega arith)

-- the cells, row by row, are those of the rows
pub cells_by_lem : (r : Row) (rs : List Row) → cells_by (extended_by (started r) rs) ≡ cells_of r rs
cells_by_lem r rs =
    let c = count_by (started r) rs in
    let n : (extended_by (started r) rs).count ≡ length (r ∷ rs) = omega arith in
    let f = first_by (started r) rs in
    let l = last_by (started r) rs in
    let i = interval_is r rs in
    rw (n, f, l, i)

-- one row more at the end
pub summary_push : (rs : List Row) (r : Row) → summary_if (rs ++ (r ∷ [])) ≡ Some (summary_with (summary_if rs) r)
summary_push [] r = refl
summary_push (x ∷ rs) r = ap (λ s. Some s) (extended_by_append (started x) rs r)

pub count_summary : (rs : List Row) → count_in (summary_if rs) ≡ length rs
count_summary [] = refl
count_summary (r ∷ rs) = let h = count_by (started r) rs in omega arith

-- The rows after an accepted edit are such as a file can have.
use Rattle.std.proofs.Common.{◌≡◌, ℕ, ◌≤◌, Bool, true, false, cond, ltb, List, [], ◌∷◌, ◌++◌, Some, None, Option, sym, refl, ap, ◌∙◌, subst}
use Rattle.std.specs.List.{AllByRecursion}
use Rattle.std.proofs.ByRecursion.{All-append, All-weaker}
use Rattle.std.proofs.lemmas.Bool.{and_from, and_parts, lt-ltb, ltb-true, false≢true}
use Rattle.model.specs.declared.Row.{Row}
use Rattle.model.specs.declared.Vector.{Vector}
use Rattle.tables.specs.Lines.{next_after, ascends}
use Rattle.journal.specs.declared.journal.Edit.TheVariants.{Paste, Cut}
use Rattle.edits.specs.Changes.{moment_of, before, between, behind, first_moment, last_moment}
use Rattle.edits.specs.Checks as checks
use Rattle.edits.specs.Checks.{none, next_allowed, flags_stay, moving, differ, paste_of, cut_of}
use Rattle.edits.proofs.FlagLaws.{flags_without}
use Rattle.edits.proofs.Parts.{split, paste_ascends, cut_ascends, paste_some}
use Rattle.round_trip.specs.Contents.{GoodRow, has_velocity, is_some, InOrder, GoodRows}

-- GOOD ROWS, PART BY PART

-- b tells whether they have velocities
pub record Good (b : Bool) (rows : List Row) : Type 0 where
  pub each : AllByRecursion GoodRow rows
  pub order : ascends rows ≡ true
  pub flags : flags_stay rows ≡ true
  pub velocities : AllByRecursion (λ r. has_velocity r ≡ b) rows

some_same : (v : Option Vector) → is_some v ≡ checks.is_some v
some_same None = refl
some_same (Some v) = refl

pub good_some : (rows : List Row) → GoodRows rows → none rows ≡ false
good_some [] g = absurd g
good_some (r ∷ rs) g = refl

order_parts : (r : Row) (rs : List Row) → InOrder r rs → (ascends (r ∷ rs) ≡ true) × (flags_stay (r ∷ rs) ≡ true) × AllByRecursion (λ s. has_velocity s ≡ has_velocity r) rs
order_parts r [] o = (refl, refl, tt)
order_parts r (s ∷ rs) o =
    let f = o.0 in
    let p = order_parts s rs o.1 in (
      and_from (next_after r (s ∷ rs)) (ascends (s ∷ rs)) (lt-ltb (moment_of r) (moment_of s) f.later) p.0,
      and_from (next_allowed r (s ∷ rs)) (flags_stay (s ∷ rs)) f.flag p.1,
      (f.velocity, All-weaker (λ x. has_velocity x ≡ has_velocity s) (λ x. has_velocity x ≡ has_velocity r) (λ x e. e ∙ f.velocity) rs p.2),
    )

order_from : (b : Bool) (r : Row) (rs : List Row) → ascends (r ∷ rs) ≡ true → flags_stay (r ∷ rs) ≡ true → AllByRecursion (λ s. has_velocity s ≡ b) (r ∷ rs) → InOrder r rs
order_from b r [] u f v = tt
order_from b r (s ∷ rs) u f v =
    let p = and_parts (next_after r (s ∷ rs)) (ascends (s ∷ rs)) u in
    let q = and_parts (next_allowed r (s ∷ rs)) (flags_stay (s ∷ rs)) f in
    (record { later = ltb-true (moment_of r) (moment_of s) p.0; flag = q.0; velocity = v.1.0 ∙ sym v.0 }, order_from b s rs p.1 q.1 v.1)

pub good_parts : (rows : List Row) → GoodRows rows → Good (moving rows) rows
good_parts [] g = absurd g
good_parts (r ∷ rs) g =
    let p = order_parts r rs g.1 in
    let e = some_same r.velocity in
    record {
      each = g.0;
      order = p.0;
      flags = p.1;
      velocities = (e, All-weaker (λ x. has_velocity x ≡ has_velocity r) (λ x. has_velocity x ≡ moving (r ∷ rs)) (λ x k. k ∙ e) rs p.2);
    }

pub good_from : (b : Bool) (rows : List Row) → none rows ≡ false → Good b rows → GoodRows rows
good_from b [] n g = absurd (false≢true (sym n))
good_from b (r ∷ rs) n g = (g.each, order_from b r rs g.order g.flags g.velocities)

-- PARTS OF ROWS

all_if : (P : Row → Type 0) (b : Bool) (r : Row) (rs : List Row) → P r → AllByRecursion P rs → AllByRecursion P (cond b (r ∷ rs) rs)
all_if P true r rs p h = (p, h)
all_if P false r rs p h = h

pub all_before : (P : Row → Type 0) (x : ℕ) (rows : List Row) → AllByRecursion P rows → AllByRecursion P (before x rows)
all_before P x [] h = tt
all_before P x (r ∷ rs) h = all_if P (ltb (moment_of r) x) r (before x rs) h.0 (all_before P x rs h.1)

pub all_behind : (P : Row → Type 0) (y : ℕ) (rows : List Row) → AllByRecursion P rows → AllByRecursion P (behind y rows)
all_behind P y [] h = tt
all_behind P y (r ∷ rs) h = all_if P (ltb y (moment_of r)) r (behind y rs) h.0 (all_behind P y rs h.1)

all_change : (P : Row → Type 0) (x y : ℕ) (block rows : List Row) → AllByRecursion P block → AllByRecursion P rows → AllByRecursion P (before x rows ++ (block ++ behind y rows))
all_change P x y block rows g h = All-append P (before x rows) (block ++ behind y rows) (all_before P x rows h) (All-append P block (behind y rows) g (all_behind P y rows h))

-- EDITS

not_differ : (b c : Bool) → differ b c ≡ false → b ≡ c
not_differ true true e = refl
not_differ true false e = absurd (false≢true (sym e))
not_differ false true e = absurd (false≢true (sym e))
not_differ false false e = refl

-- a block whose velocities agree with the rows, where the leap flags of the whole stay
pub paste_good : (block rows : List Row) → GoodRows block → GoodRows rows → differ (moving block) (moving rows) ≡ false → flags_stay (paste_of block rows).rows ≡ true → GoodRows (paste_of block rows).rows
paste_good block rows g k d f =
    let x = first_moment block in
    let y = last_moment block in
    let b = good_parts block g in
    let p = good_parts rows k in
    let n = good_some block g in
    let vs : AllByRecursion (λ r. has_velocity r ≡ moving rows) block = subst (λ z. AllByRecursion (λ r. has_velocity r ≡ z) block) (not_differ (moving block) (moving rows) d) b.velocities in
    good_from (moving rows) (paste_of block rows).rows (paste_some Paste x y block rows n)
    (record {
      each = all_change GoodRow x y block rows b.each p.each;
      order = paste_ascends Paste block rows n b.order p.order;
      flags = f;
      velocities = all_change (λ r. has_velocity r ≡ moving rows) x y block rows vs p.velocities;
    })

-- a cut that leaves a row
pub cut_good : (x y : ℕ) (rows : List Row) → x ≤ y → GoodRows rows → none (cut_of x y rows).rows ≡ false → GoodRows (cut_of x y rows).rows
cut_good x y rows m k n =
    let p = good_parts rows k in
    good_from (moving rows) (cut_of x y rows).rows n
    (record {
      each = all_change GoodRow x y [] rows tt p.each;
      order = cut_ascends Cut x y rows m p.order;
      flags = flags_without (before x rows) (between x y rows) (behind y rows) (ap flags_stay (split x y rows m p.order) ∙ p.flags);
      velocities = all_change (λ r. has_velocity r ≡ moving rows) x y [] rows tt p.velocities;
    })

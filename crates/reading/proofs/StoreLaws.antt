use Rattle.std.proofs.Common.{◌≡◌, ℕ, zero, suc, ◌+◌, ◌≤◌, List, [], ◌∷◌, length, get_or, set, Some, refl, ap, arith, Option, None}
use Rattle.std.proofs.lemmas.List.{length-append}
use Rattle.model.specs.declared.LeapFlag.{LeapFlag}
use Rattle.model.specs.declared.Row.{Row}
use Rattle.model.specs.declared.Vector.{Vector}
use Rattle.lines.specs.Texts.{Text, on_line}
use Rattle.reading.specs.declared.part.RowPart.{RowPart}
use Rattle.reading.specs.declared.part.RowPart.TheVariants as parts
use Rattle.reading.specs.Stores.{with_velocity, completed, with_part, part_of, rows_with, rows_on, first_flag_of}

-- the last row gets its velocity in its place
pub completed_last : (rs : List Row) (i : ℕ) (x : Row) (v : Vector) → length rs ≡ i + 1 → x ≡ get_or rs i x → set rs i (with_velocity x v) ≡ completed rs v
completed_last [] i x v h e = absurd (omega arith)
completed_last (r ∷ []) zero x v h e = ap (λ z. with_velocity z v ∷ []) e
completed_last (r ∷ []) (suc i) x v h e = absurd (omega arith)
completed_last (r ∷ (s ∷ rs)) zero x v h e = absurd (omega arith)
completed_last (r ∷ (s ∷ rs)) (suc i) x v h e = ap (λ l. r ∷ l) (completed_last (s ∷ rs) i x v (omega arith) e)

length_completed : (rs : List Row) (v : Vector) → length (completed rs v) ≡ length rs
length_completed [] v = refl
length_completed (r ∷ []) v = refl
length_completed (r ∷ (s ∷ rs)) v = ap suc (length_completed (s ∷ rs) v)

-- no part takes a row away
pub length_with : (rs : List Row) (p : Option RowPart) → length rs ≤ length (with_part rs p)
length_with rs (Some (parts.Position r)) = omega (arith, length-append rs (r ∷ []))
length_with rs (Some (parts.Velocity v)) = omega (arith, length_completed rs v)
length_with rs None = omega arith

pub length_on : (n : ℕ) (ls : List (List ℕ)) (rs : List Row) → length rs ≤ length (rows_on n ls rs)
length_on n [] rs = omega arith
length_on n (l ∷ ls) rs = let a = length_with rs (part_of (n + 1) l) in let b = length_on (n + 1) ls (rows_with (n + 1) rs l) in omega arith

flag_with : (rs : List Row) (p : Option RowPart) (f : LeapFlag) → first_flag_of rs ≡ Some f → first_flag_of (with_part rs p) ≡ Some f
flag_with [] p f h = cc
flag_with (r ∷ rs) (Some (parts.Position s)) f h = h
flag_with (r ∷ []) (Some (parts.Velocity v)) f h = h
flag_with (r ∷ (s ∷ rs)) (Some (parts.Velocity v)) f h = h
flag_with (r ∷ rs) None f h = h

-- a first row keeps its flag, whatever lines follow
pub flag_on : (n : ℕ) (ls : List (List ℕ)) (rs : List Row) (f : LeapFlag) → first_flag_of rs ≡ Some f → first_flag_of (rows_on n ls rs) ≡ Some f
flag_on n [] rs f h = h
flag_on n (l ∷ ls) rs f h = flag_on (n + 1) ls (rows_with (n + 1) rs l) f (flag_with rs (part_of (n + 1) l) f h)

-- the text t comes after n lines with the rows rs; l is its first line, and u what follows; p is what l says of the rows
module _ (t u : Text) (l : List ℕ) (n : ℕ) (rs : List Row) (is : t ≡ on_line l u) (m number : ℕ) (p : Option RowPart) (next : m ≡ n + 1) (same : number ≡ m) (says : p ≡ part_of number l) where
  pub rows_more : rows_on m u.lines (with_part rs p) ≡ rows_on n t.lines rs
  rows_more = rw (says, same, next, is)

  -- the rows with that line are no more than all
  pub rows_room_lem : length (with_part rs p) ≤ length (rows_on n t.lines rs)
  rows_room_lem = let a = ap length rows_more in let b = length_on m u.lines (with_part rs p) in omega arith

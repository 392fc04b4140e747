-- An edit by moments is an edit by places.
use Rattle.std.proofs.Common.{◌≡◌, ℕ, suc, ◌+◌, ◌-◌, ◌<◌, ◌≤◌, true, List, [], ◌∷◌, ◌++◌, map, length, take, drop, sym, refl, ap, ◌∙◌, ⊎_elim, arith, length-drop, length-take}
use Rattle.std.proofs.lemmas.List.{take_at, drop_at, length-append, length-map}
use Rattle.std.proofs.lemmas.Bool.{lt-ltb, le-ltb, le-leb, lt-leb, cases_lt}
use Rattle.model.specs.declared.Row.{Row}
use Rattle.tables.specs.Lines.{time_of, not_after, earlier, ascends}
use Rattle.tables.proofs.Orders.{not_after_le}
use Rattle.journal.specs.declared.journal.Edit.{Edit}
use Rattle.edits.specs.Changes.{moment_of, before, behind, between, change_of, change_at}
use Rattle.edits.proofs.Parts.{later, ascends_tail, later_ascends, later_parts, before_in, before_out, before_none, behind_in, behind_out, behind_all, between_low, between_high, split}

none_earlier : (x z : ℕ) (rs : List Row) → x ≤ z → later z rs ≡ true → earlier (map time_of rs) x ≡ 0
none_earlier x z [] l h = refl
none_earlier x z (r ∷ rs) l h =
    let p = later_parts z r rs h in
    let a = p.0 in
    rw (le-ltb (moment_of r) x (omega arith), none_earlier x (moment_of r) rs (omega arith) p.1)

none_not_after : (y z : ℕ) (rs : List Row) → y ≤ z → later z rs ≡ true → not_after (map time_of rs) y ≡ 0
none_not_after y z [] l h = refl
none_not_after y z (r ∷ rs) l h =
    let p = later_parts z r rs h in
    let a = p.0 in
    rw (lt-leb (moment_of r) y (omega arith), none_not_after y (moment_of r) rs (omega arith) p.1)

-- in ascending rows those before a moment stand first
pub before_take : (x : ℕ) (rows : List Row) → ascends rows ≡ true → before x rows ≡ take (earlier (map time_of rows) x) rows
before_take x [] h = refl
before_take x (r ∷ rs) o =
    let h = ascends_tail r rs o in
    ⊎_elim
    (λ (l : moment_of r < x).
    let n : earlier (map time_of (r ∷ rs)) x ≡ suc (earlier (map time_of rs) x) = rw (lt-ltb (moment_of r) x l) (omega arith) in
    before_in r rs x l ∙ ap (λ t. r ∷ t) (before_take x rs (later_ascends (moment_of r) rs h)) ∙ ap (λ k. take k (r ∷ rs)) (sym n))
    (λ (l : x ≤ moment_of r).
    let n : earlier (map time_of (r ∷ rs)) x ≡ 0 = rw (le-ltb (moment_of r) x l, none_earlier x (moment_of r) rs l h) in
    before_out r rs x l ∙ before_none x (moment_of r) rs l h ∙ ap (λ k. take k (r ∷ rs)) (sym n))
    (cases_lt (moment_of r) x)

-- and those after a moment stand last
pub behind_drop : (y : ℕ) (rows : List Row) → ascends rows ≡ true → behind y rows ≡ drop (not_after (map time_of rows) y) rows
behind_drop y [] h = refl
behind_drop y (r ∷ rs) o =
    let h = ascends_tail r rs o in
    ⊎_elim
    (λ (l : y < moment_of r).
    let n : not_after (map time_of (r ∷ rs)) y ≡ 0 = rw (lt-leb (moment_of r) y l, none_not_after y (moment_of r) rs (omega arith) h) in
    behind_in r rs y l ∙ ap (λ t. r ∷ t) (behind_all y (moment_of r) rs (omega arith) h) ∙ ap (λ k. drop k (r ∷ rs)) (sym n))
    (λ (l : moment_of r ≤ y).
    let n : not_after (map time_of (r ∷ rs)) y ≡ suc (not_after (map time_of rs) y) = rw (le-leb (moment_of r) y l) (omega arith) in
    behind_out r rs y l ∙ behind_drop y rs (later_ascends (moment_of r) rs h) ∙ ap (λ k. drop k (r ∷ rs)) (sym n))
    (cases_lt y (moment_of r))

earlier_le : (x : ℕ) (rows : List Row) → earlier (map time_of rows) x ≤ length rows
earlier_le x [] = omega arith
earlier_le x (r ∷ rs) =
    let h = earlier_le x rs in
    ⊎_elim
    (λ (l : moment_of r < x). let n : earlier (map time_of (r ∷ rs)) x ≡ suc (earlier (map time_of rs) x) = rw (lt-ltb (moment_of r) x l) (omega arith) in let z : earlier (map time_of (r ∷ rs)) x ≤ length (r ∷ rs) = omega arith in z)
    (λ (l : x ≤ moment_of r). let n : earlier (map time_of (r ∷ rs)) x ≡ earlier (map time_of rs) x = rw (le-ltb (moment_of r) x l) (omega arith) in let z : earlier (map time_of (r ∷ rs)) x ≤ length (r ∷ rs) = omega arith in z)
    (cases_lt (moment_of r) x)

-- no row stands between moments in the wrong order
pub none_between : (x y : ℕ) (rows : List Row) → y < x → between x y rows ≡ []
none_between x y [] h = refl
none_between x y (r ∷ rs) h =
    ⊎_elim
    (λ (l : moment_of r < x). between_low r rs x y l ∙ none_between x y rs h)
    (λ (l : x ≤ moment_of r). between_high r rs x y l (omega arith) ∙ none_between x y rs h)
    (cases_lt (moment_of r) x)

-- the rows from i up to j are those from the moment x to the moment y
pub record Placed (k : Edit) (x y i j : ℕ) (block rows : List Row) : Type 0 where
  pub order : i ≤ j
  pub inside : j ≤ length rows
  pub same : change_of k x y block rows ≡ change_at k i j block rows
  pub size : length (change_of k x y block rows).rows ≡ i + length block + (length rows - j)
  pub out : length (change_of k x y block rows).out ≡ j - i

pub placed : (k : Edit) (x y i j : ℕ) (block rows : List Row) → x ≤ y → ascends rows ≡ true → i ≡ earlier (map time_of rows) x → j ≡ not_after (map time_of rows) y → Placed k x y i j block rows
placed k x y i j block rows m h ei ej =
    let first = before x rows in
    let out = between x y rows in
    let last = behind y rows in
    let b : first ≡ take i rows = before_take x rows h ∙ ap (λ n. take n rows) (sym ei) in
    let a : last ≡ drop j rows = behind_drop y rows h ∙ ap (λ n. drop n rows) (sym ej) in
    let il = earlier_le x rows in
    let jl : j ≤ length rows = let n = not_after_le (map time_of rows) y in let q = length-map rows time_of in omega arith in
    let s = split x y rows m h in
    let l0 = ap length s in
    let l1 = length-append first (out ++ last) in
    let l2 = length-append out last in
    let l3 : length first ≡ i = ap length b ∙ (let t = length-take i rows in omega arith) in
    let l4 : length last ≡ length rows - j = ap length a ∙ length-drop j rows in
    let ij : i ≤ j = omega arith in
    let l5 : length out ≡ j - i = omega arith in
    let d : drop i rows ≡ out ++ last = ap (drop i) (sym s) ∙ drop_at first (out ++ last) i l3 in
    let o : out ≡ take (j - i) (drop i rows) = sym (take_at out last (j - i) l5) ∙ ap (take (j - i)) (sym d) in
    record {
      order = ij;
      inside = jl;
      same = λ p. record { rows = b p ++ (block ++ a p); out = o p; entry = record { edit = k; first = l3 p; put = length block; taken = l5 p } };
      size = let u = length-append first (block ++ last) in let v = length-append block last in omega arith;
      out = l5;
    }

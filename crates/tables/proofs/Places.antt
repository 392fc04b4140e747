use Rattle.std.proofs.Common.{◌≡◌, ℕ, zero, suc, ◌+◌, ◌<◌, ◌≤◌, List, [], ◌∷◌, map, length, get_or, take, drop, Some, None, Option, Ok, Err, Result, IsOk, Bor, refl, ap, arith}
use Rattle.std.specs.Option.{ok_or, option_copied}
use Rattle.std.specs.Slice.{IsItemAt}
use Rattle.std.proofs.lemmas.List.{drop_more}
use Rattle.refusal.specs.declared.Refusal.{Refusal}
use Rattle.refusal.specs.declared.Refusal.TheVariants.{NoSuchNumber}
use Rattle.tables.specs.Lines.{place}

-- below the length there is an element
pub place_in : {X : Type 0} (xs : List X) (i : ℕ) (r : Result X Refusal) → r ≡ place xs i → i < length xs → IsOk r
place_in xs i (Ok x) p h = refl
place_in [] i (Err e) p h = absurd (omega arith)
place_in (x ∷ xs) zero (Err e) p h = absurd (cc)
place_in (x ∷ xs) (suc n) (Err e) p h = place_in xs n (Err e) p (omega arith)

-- an element stands below the length
pub place_within : {X : Type 0} (xs : List X) (i : ℕ) (x : X) → Ok x ≡ place xs i → i < length xs
place_within [] i x e = absurd (cc)
place_within (y ∷ xs) zero x e = omega arith
place_within (y ∷ xs) (suc n) x e = let h = place_within xs n x e in omega arith

pub place_read : {X : Type 0} (xs : List X) (i : ℕ) (x d : X) → Ok x ≡ place xs i → get_or xs i d ≡ x
place_read [] i x d p = absurd (cc)
place_read (y ∷ xs) zero x d p = cc
place_read (y ∷ xs) (suc n) x d p = place_read xs n x d p

pub place_at : {X : Type 0} (xs : List X) (i : ℕ) (x : X) → i < length xs → x ≡ get_or xs i x → Ok x ≡ place xs i
place_at [] i x h e = absurd (omega arith)
place_at (y ∷ xs) zero x h e = ap Ok e
place_at (y ∷ xs) (suc n) x h e = place_at xs n x (omega arith) e

pub place_past : {X : Type 0} (xs : List X) (i : ℕ) → length xs ≤ i → Err NoSuchNumber ≡ place xs i
place_past [] i h = refl
place_past (y ∷ xs) zero h = absurd (omega arith)
place_past (y ∷ xs) (suc n) h = place_past xs n (omega arith)

pub place_map : {X Y : Type 0} (f : X → Y) (xs : List X) (i : ℕ) (x : X) → Ok x ≡ place xs i → Ok (f x) ≡ place (map f xs) i
place_map f [] i x e = absurd (cc)
place_map f (y ∷ xs) zero x e = let s : x ≡ y = cc in ap (λ v. Ok (f v)) s
place_map f (y ∷ xs) (suc n) x e = place_map f xs n x e

pub place_map_err : {X Y : Type 0} (f : X → Y) (xs : List X) (i : ℕ) (r : Refusal) → Err r ≡ place xs i → Err r ≡ place (map f xs) i
place_map_err f [] i r e = let s : r ≡ NoSuchNumber = cc in ap Err s
place_map_err f (y ∷ xs) zero r e = absurd (cc)
place_map_err f (y ∷ xs) (suc n) r e = place_map_err f xs n r e

pub cut_more : {X : Type 0} (xs : List X) (i n : ℕ) (x : X) → Ok x ≡ place xs i → take (suc n) (drop i xs) ≡ x ∷ take n (drop (i + 1) xs)
cut_more xs i n x p = rw (drop_more xs i x (place_within xs i x p), place_read xs i x x p)

-- what `get`, `copied` and `ok_or` read together
pub place_got : {X : Type 0} (xs : List X) (i : ℕ) (lent : Option (Bor X)) (o : Option X) (r : Result X Refusal)
    → IsItemAt xs i lent → o ≡ option_copied lent → r ≡ ok_or o NoSuchNumber → r ≡ place xs i
place_got xs i (Some x) o r h e f = rw (f, e) (place_at xs i x.now h.3.0 h.1)
place_got xs i None o r h e f = rw (f, e) (place_past xs i h.3)

use Rattle.std.proofs.Common.{◌≡◌, ℕ, zero, suc, ◌+◌, ◌<◌, ◌≤◌, Bool, true, false, leb, List, get_or, map, refl, ◌∙◌, subst, arith}
use Rattle.std.specs.Array.{IsFromFnResultFrom, IsFromFnResult}
use Rattle.std.specs.Fn.{Called}
use Rattle.std.specs.List.{range_with_len}
use Rattle.std.proofs.lemmas.Bool.{leb-true, leb-false}
use Rattle.std.proofs.lemmas.List.FromFn.{fill_by_all}
use denote.Param.Members.{Mut}

-- an array made by a closure that changes nothing, and gives h j at j
module _ {F B : Type 0} (g : Mut F (ℕ × Unit {0}) B) (h : ℕ → B) (f : F) (gives : (j : ℕ) (y : B) (q : F) → Called g f (j, tt) y q → (q ≡ f) × (y ≡ h j)) (ys : List B) where
  each_at : (i n : ℕ) (p : F) → p ≡ f → IsFromFnResultFrom g p ys i n → (k : ℕ) → i ≤ k → k < i + n → (d : B) → get_or ys k d ≡ h k
  each_at i zero p e c k l u d = absurd (omega arith)
  each_at i (suc n) p e c k l u d =
      let one : (c.0 ≡ f) × (c.1 ≡ h i) = gives i c.1 c.0 (subst (λ z. Called g z (i, tt) c.1 c.0) e c.3) in
      by (leb (i + 1) k) refl (c.2.1 d ∙ one.1) (λ w. each_at (i + 1) n c.0 one.0 c.4 k w (omega arith) d)
    where
      by : (b : Bool) → leb (i + 1) k ≡ b → get_or ys i d ≡ h i → (i + 1 ≤ k → get_or ys k d ≡ h k) → get_or ys k d ≡ h k
      by true w here on = on (leb-true (i + 1) k w)
      by false w here on = let lt = leb-false (i + 1) k w in let same : i ≡ k = omega arith in subst (λ z. get_or ys z d ≡ h z) same here

  pub made : (n : ℕ) (d : B) → IsFromFnResult g f ys n → ys ≡ map h (range_with_len 0 n)
  made n d r = fill_by_all h ys n d r.long (λ k l. each_at 0 n f refl r.each k (omega arith) (omega arith) d)

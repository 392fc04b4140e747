-- The first rule that holds refuses.
use Rattle.std.proofs.Common.{◌≡◌, ◌<◌, Bool, true, false, cond, List, [], ◌∷◌, ◌++◌, length, Ok, Err, refl, ◌∙◌, arith}
use Rattle.std.proofs.lemmas.Bool.{cond-true, cond-false}
use Rattle.refusal.specs.declared.Refusal.{Refusal}
use Rattle.edits.specs.Checks.{Answer, rules, none}

-- no rule holds
abbrev pub AllFalse : List (Bool × Refusal) → Type 0
AllFalse [] = Unit {0}
AllFalse (r ∷ rs) = (r.0 ≡ false) × AllFalse rs

pub accepts : (rs : List (Bool × Refusal)) → AllFalse rs → rules rs ≡ Ok tt
accepts [] h = refl
accepts (r ∷ rs) h = cond-false r.0 (Err r.1) (rules rs) h.0 ∙ accepts rs h.1

passed_one : (b : Bool) (e : Refusal) (a : Answer) → cond b (Err e) a ≡ Ok tt → (b ≡ false) × (a ≡ Ok tt)
passed_one true e a h = absurd (cc)
passed_one false e a h = (refl, h)

pub passed : (rs : List (Bool × Refusal)) → rules rs ≡ Ok tt → AllFalse rs
passed [] h = tt
passed (r ∷ rs) h = let p = passed_one r.0 r.1 (rules rs) h in (p.0, passed rs p.1)

pub refused_by : (rs : List (Bool × Refusal)) (b : Bool) (e : Refusal) (ts : List (Bool × Refusal)) → AllFalse rs → b ≡ true → rules (rs ++ ((b, e) ∷ ts)) ≡ Err e
refused_by [] b e ts h t = cond-true b (Err e) (rules ts) t
refused_by (r ∷ rs) b e ts h t = cond-false r.0 (Err r.1) (rules (rs ++ ((b, e) ∷ ts))) h.0 ∙ refused_by rs b e ts h.1 t

-- lists with and without elements
pub some_in : {X : Type 0} (xs : List X) → 0 < length xs → none xs ≡ false
some_in [] h = absurd (omega arith)
some_in (x ∷ xs) h = refl

pub none_in : {X : Type 0} (xs : List X) → length xs ≡ 0 → none xs ≡ true
none_in [] h = refl
none_in (x ∷ xs) h = absurd (omega arith)

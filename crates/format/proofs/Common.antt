use mathlib.Core.Path.{◌≡◌, refl}
use mathlib.Core.Bool.{Bool, true, false, cond}
use native.Mathlib.Omega.{arith}
use lib.IntN.{ℤ}
use lib.Signed.{le_z, ◌≤ℤ◌}
use Rattle.std.specs.declared.result.Result.{Result}
use Rattle.std.specs.declared.result.Result.TheVariants.{Ok, Err}
use Rattle.std.proofs.lemmas.Int.{ints}

-- what a test lets through
pub chosen : {X E : Type 0} (b : Bool) (x v : X) (e : E) → ◌≡◌ {A = Result X E} (cond b (Ok x) (Err e)) (Ok v) → (b ≡ true) × (x ≡ v)
chosen true x v e p = (refl, cc)
chosen false x v e p = cc

pub le_of : (a b : ℤ) → le_z a b ≡ true → a ≤ℤ b
le_of a b h = grind (arith, ints)

pub of_le : (a b : ℤ) → a ≤ℤ b → le_z a b ≡ true
of_le a b h = grind (arith, ints)

-- The kind that goes by a name.
use Rattle.std.proofs.Common.{◌≡◌, ℕ, List, [], ◌∷◌, cond, refl, ap, Some}
use Rattle.std.specs.List.{find}
use Rattle.std.specs.Str.{bytes_eq}
use Rattle.commands.specs.declared.kind.Kind.{Kind}
use Rattle.commands.specs.Kinds.{form_of, named}

pub named_is : (name : List ℕ) (ks : List Kind) → named name ks ≡ find (λ k. bytes_eq (form_of k).name name) ks
named_is name [] = refl
named_is name (k ∷ ks) = ap (λ r. cond (bytes_eq (form_of k).name name) (Some k) r) (named_is name ks)

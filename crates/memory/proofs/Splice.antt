-- What the two block moves of an edit leave.
use Rattle.std.proofs.Common.{◌≡◌, ℕ, ◌+◌, ◌-◌, ◌≤◌, List, ◌++◌, length, take, drop, sym, ap, ◌∙◌, append_assoc, arith, length-drop, length-take}
use lib.Seq.{paste}
use Rattle.std.proofs.lemmas.List.{take-take, take_at, drop_at, take-append-le, length-append}
use Rattle.std.proofs.lemmas.Slice.{between_is}

-- of the first len elements, n at the place i make room for m of the source
pub splice : {X : Type 0} (cells t u src : List X) (len i n m from : ℕ) → i + n ≤ len → len ≤ length cells → i + m + (len - (i + n)) ≤ length cells → from + m ≤ length src
    → t ≡ paste cells (i + m) (drop (i + n) cells) (len - (i + n)) → u ≡ paste t i (drop from src) m
    → take (len - n + m) u ≡ take i (take len cells) ++ (take m (drop from src) ++ drop (i + n) (take len cells))
splice {X} cells t u src len i n m from h l r b e f =
    let A : List X = take (i + m) cells in
    let M : List X = take (len - (i + n)) (drop (i + n) cells) in
    let R : List X = drop (i + m + (len - (i + n))) cells in
    let N : List X = take m (drop from src) in
    let I : List X = take i cells in
    let la = length-take (i + m) cells in
    let li = length-take i cells in
    let ls = length-drop from src in
    let ln = length-take m (drop from src) in
    let ld = length-drop (i + n) cells in
    let lm = length-take (len - (i + n)) (drop (i + n) cells) in
    let g : t ≡ A ++ (M ++ R) = e ∙ append_assoc A M R in
    let front : take i t ≡ I = ap (take i) g ∙ take-append-le i A (M ++ R) (omega arith) ∙ take-take i (i + m) cells (omega arith) in
    let back : drop (i + m) t ≡ M ++ R = ap (drop (i + m)) g ∙ drop_at A (M ++ R) (i + m) (omega arith) in
    let whole : u ≡ (I ++ N ++ M) ++ R = f ∙ (λ p. front p ++ N ++ back p) ∙ sym (append_assoc (I ++ N) M R) in
    let long : length (I ++ N ++ M) ≡ len - n + m = omega (arith, length-append (I ++ N) M, length-append I N) in
    ap (take (len - n + m)) whole ∙ take_at (I ++ N ++ M) R (len - n + m) long ∙ append_assoc I N M
    ∙ (λ p. sym (take-take i len cells (omega arith)) p ++ (N ++ between_is cells (i + n) len p))

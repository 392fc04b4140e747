use Rattle.std.proofs.Common.{◌≡◌, ℕ, ◌+◌, ◌-◌, ◌≤◌, List, ◌++◌, length, take, drop, ap, ◌∙◌, arith, length-drop, length-take}
use borrow.Rule.Slice.PartMut.{put_mid}
use lib.Seq.{paste}
use Rattle.std.proofs.lemmas.List.{take-take}
use Rattle.std.proofs.lemmas.Slice.{put_mid-paste}
use Rattle.memory.proofs.blocks.copy_block.Goals as goal

copied : {X : Type 0} (d s p : List X) (at from n : ℕ) → from + n ≤ length s → p ≡ take ((from + n) - from) (drop from s)
    → put_mid at ((at + n) - at) d p ≡ paste d at (drop from s) n
copied d s p at from n h e =
    let k : (from + n) - from ≡ n = omega arith in
    let z : List _ = take n (drop from s) in
    let l : n ≡ length z = omega (arith, length-take n (drop from s), length-drop from s) in
    put_mid-paste at ((at + n) - at) d p z n (e ∙ ap (λ j. take j (drop from s)) k) (omega arith) l
    ∙ ap (λ t. take at d ++ t ++ drop (at + n) d) (take-take n n (drop from s) (omega arith))

pub returns : goal.returns
returns g c = copied c.args.cells.now c.args.source.now c.copy_from_slice.new.self c.args.to c.args.from c.args.n c.requires.source c.copy_from_slice.ensures.after

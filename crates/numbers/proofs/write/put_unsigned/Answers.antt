use Rattle.std.proofs.Common.{◌≤◌, ◌+◌, length, ◌∙◌, arith, length-set}
use Rattle.std.proofs.lemmas.List.{length-take, length-drop}
use Rattle.numbers.proofs.Lengths.{length_unsigned, length_fraction}
use Rattle.numbers.specs.Texts.{unsigned_text}
use Rattle.numbers.proofs.Puts as puts
use Rattle.numbers.proofs.write.put_unsigned.Goals as goal
use Rattle.numbers.proofs.write.put_unsigned.Goals.{Else-places-eq0}

pub returns-then-places-eq0 : goal.returns-then-places-eq0
returns-then-places-eq0 c = c.put_digits.ensures.is ∙ puts.whole_only c.args.value c.args.places (length c.args.field.now) c.if-places-eq0.true c.requires (omega arith)

room : (c : Else-places-eq0) → c.args.places + 2 ≤ length (unsigned_text c.args.value c.args.places)
room c = puts.room_places c.args.value c.args.places (omega arith) (omega arith)

pub overflow_sub-point : goal.overflow_sub-point
overflow_sub-point c = omega (arith, room (goal.at.overflow_sub-point c).Else-places-eq0)

pub overflow_sub-point-2 : goal.overflow_sub-point-2
overflow_sub-point-2 c = omega (arith, room (goal.at.overflow_sub-point-2 c).Else-places-eq0)

pub returns : goal.returns
returns c =
    let n = c.args.value in
    let d = c.args.places in
    let cut = c.split_at_mut-whole.ensures in
    let some = room (goal.at.returns c).Else-places-eq0 in
    puts.pointed n d _ (length c.split_at_mut-whole.result.0.now) _ _ _ _ c.put_digits-rest.ensures.is c.put_digits-rest.ensures.rest c.put_digits-2.ensures.is (omega arith) (omega arith)
    (simp (length-take, length-drop, length-set) (omega (arith, cut.back_len)))
    (omega (arith, cut.front_len, length_unsigned n d, length_fraction d n (omega arith)))
    (omega (arith, cut.back_len))

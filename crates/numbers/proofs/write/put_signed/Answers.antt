use Rattle.std.proofs.Common.{◌≡◌, ◌∷◌, length, pos, nat_abs, ◌<ℤ◌, ap, ◌∙◌, arith, w64}
use Rattle.std.proofs.lemmas.Int.{to_z-of_z, ints}
use Rattle.numbers.specs.Texts.{unsigned_text}
use Rattle.numbers.proofs.Puts as puts
use Rattle.numbers.proofs.write.put_signed.Goals as goal

pub returns-then-value-lt0 : goal.returns-then-value-lt0
returns-then-value-lt0 c =
    let v = c.args.value in
    let d = c.args.places in
    let neg : v <ℤ pos 0 = omega (arith, ints) in
    let abs : c.unsigned_abs-unsigned.result ≡ nat_abs v = c.unsigned_abs-unsigned.ensures.value ∙ ap nat_abs (to_z-of_z w64 v c.ranges.value) in
    let text = puts.text_neg v d neg in
    puts.first_then c.args.field.now c.put_unsigned.new.field 45 (omega (arith, ap length text)) ∙ ap (λ l. 45 ∷ l) (c.put_unsigned.ensures ∙ ap (λ n. unsigned_text n d) abs) ∙ text

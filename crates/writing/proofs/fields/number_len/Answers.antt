use Rattle.std.proofs.Common.{length, ap, ◌∙◌, arith, w64}
use Rattle.std.proofs.lemmas.Int.{to_z-of_z}
use Rattle.numbers.specs.Texts.{text_of}
use Rattle.writing.proofs.FieldLaws.{text_le}
use Rattle.writing.proofs.fields.number_len.Goals as goal

pub returns-in-Plain-clause-small : goal.returns-in-Plain-clause-small
returns-in-Plain-clause-small c =
    let v = c.args.value in
    let d = c.args.places in
    omega (arith, c.decimal_len.ensures ∙ ap (λ z. length (text_of z d)) (to_z-of_z w64 v c.ranges.value), text_le v d c.ranges.value)

pub returns-in-Right-clause-small : goal.returns-in-Right-clause-small
returns-in-Right-clause-small c =
    let v = c.args.value in
    let d = c.args.places in
    omega (arith, c.decimal_len-in-Right.ensures ∙ ap (λ z. length (text_of z d)) (to_z-of_z w64 v c.ranges.value), text_le v d c.ranges.value)

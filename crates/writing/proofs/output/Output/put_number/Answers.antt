use Rattle.std.proofs.Common.{◌≡◌, ◌≤◌, ◌+◌, ◌-◌, ◌∷◌, length, take, drop, sym, ap, ◌∙◌, arith, w64}
use Rattle.std.proofs.lemmas.Int.{to_z-of_z}
use Rattle.numbers.specs.Texts.{right_text, two_digits}
use Rattle.numbers.proofs.Puts.{first_then}
use Rattle.writing.specs.Texts.{number_text}
use Rattle.writing.proofs.OutputLaws.{puts_part}
use Rattle.writing.proofs.FieldLaws.{number_spaced, part_long}
use Rattle.writing.proofs.output.Output.put_number.Goals as goal

pub returns-in-TwoDigits : goal.returns-in-TwoDigits
returns-in-TwoDigits c =
    let v = c.args.value in
    let d = c.args.places in
    let at = c.in-Some.at in
    let n = c.number_len-len.result + 1 in
    let out = c.advance.new.self.bytes.now in
    let z = to_z-of_z w64 v c.ranges.value in
    let is : n ≡ length (number_text c.args.layout d v) + 1 = ap (λ k. k + 1) (c.number_len-len.ensures.is ∙ ap (λ v. length (number_text c.args.layout d v)) z) in
    let long = part_long out at n (omega (arith, c.in-Some.ensures.place.inside, ap (λ o. length o.now) c.advance.ensures.bytes)) in
    let some : 1 ≤ length (take (at + n - at) (drop at out)) = omega arith in
    let text = first_then (take (at + n - at) (drop at out)) c.put_two_digits.new.field 32 some ∙ ap (λ t. 32 ∷ t) (c.put_two_digits.ensures ∙ ap two_digits z ∙ ap (λ how. number_text how d v) (sym c.in-TwoDigits.is)) in
    puts_part 301 c.args.self.now c.advance.new.self _ _ at _ _ c.advance.ensures.bytes c.in-Some.ensures.place text (omega (arith, is)) (omega (arith, c.number_len-len.ensures.small)) (omega arith)

pub returns-in_default-layout : goal.returns-in_default-layout
returns-in_default-layout c =
    let v = c.args.value in
    let d = c.args.places in
    let at = c.in-Some.at in
    let n = c.number_len-len.result + 1 in
    let out = c.advance.new.self.bytes.now in
    let z = to_z-of_z w64 v c.ranges.value in
    let is : n ≡ length (number_text c.args.layout d v) + 1 = ap (λ k. k + 1) (c.number_len-len.ensures.is ∙ ap (λ v. length (number_text c.args.layout d v)) z) in
    let long = part_long out at n (omega (arith, c.in-Some.ensures.place.inside, ap (λ o. length o.now) c.advance.ensures.bytes)) ∙ is in
    let text =
    c.put_decimal.ensures ∙ ap (λ v. right_text v d (length (take (at + n - at) (drop at out)))) z ∙ ap (right_text v d) long ∙ number_spaced c.args.layout d v c.in_default-layout.not-TwoDigits in
    puts_part 301 c.args.self.now c.advance.new.self _ _ at _ _ c.advance.ensures.bytes c.in-Some.ensures.place text (omega (arith, is)) (omega (arith, c.number_len-len.ensures.small)) (omega arith)

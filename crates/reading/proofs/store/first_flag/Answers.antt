use Rattle.std.proofs.Common.{◌≡◌, Some, [], ◌∷◌, drop, sym, refl, ap, ◌∙◌}
use Rattle.lines.specs.Texts.{text_of, on_line}
use Rattle.reading.specs.declared.part.RowPart.TheVariants as parts
use Rattle.reading.specs.Stores.{part_of, rows_on, rows_in, first_flag_of}
use Rattle.reading.proofs.StoreLaws.{flag_on, rows_more}
use Rattle.reading.proofs.store.first_flag.Goals as goal

pub returns-in-Some-Position : goal.returns-in-Some-Position
returns-in-Some-Position c =
    let r = c.in-Some-Position.row in
    let rest = (text_of (drop c.next_line.new.self.at c.args.text.now)).lines in
    let told : text_of (drop c.loop-line.lines.at c.args.text.now) ≡ on_line c.in-Some.line.now (text_of (drop c.next_line.new.self.at c.args.text.now)) =
    ap (λ f. text_of (drop c.loop-line.lines.at f)) (sym c.loop-line.invariant.1)
    ∙ c.in-Some.ensures.text
    ∙ ap (λ f. on_line c.in-Some.line.now (text_of (drop c.next_line.new.self.at f))) c.loop-line.invariant.1 in
    let part : part_of c.number.result c.in-Some.line.now ≡ Some (parts.Position r) = sym c.of.ensures ∙ rw c.in-Some-Position.field-0-is at c.in-Some-Position.is in
    let all : rows_on c.next_line.new.self.line rest (r ∷ []) ≡ rows_in c.args.text.now =
    rows_more _ _ c.in-Some.line.now c.loop-line.lines.line [] told c.next_line.new.self.line c.number.result _ c.in-Some.ensures.line c.number.ensures (sym part)
    ∙ c.loop-line.invariant.0 in
    sym (flag_on c.next_line.new.self.line rest (r ∷ []) r.flag refl) ∙ ap first_flag_of all

use Rattle.std.proofs.Common.{◌+◌, ◌*◌, length, arith}
use Rattle.std.proofs.lemmas.List.{length_push}
use Rattle.std.proofs.lemmas.Slice.Zip.{zip_turn, zip_end}
use Rattle.writing.specs.Texts.{fields_text}
use Rattle.writing.proofs.OutputLaws.{puts_none, puts_same, puts_both}
use Rattle.writing.proofs.RecordLaws.{fields_next, fields_all}
use Rattle.writing.proofs.output.Output.put_fields.Goals as goal

pub loop-field-init : goal.loop-field-init
unfolding fields_text
loop-field-init c = puts_none c.args.self.now

pub loop-field-preserved : goal.loop-field-preserved
loop-field-preserved c =
    let n = length c.loop-field.yielded in
    let f = c.in-Some.field.now in
    let v = c.in-Some.value.now in
    let at = zip_turn c.args.fields.now c.args.values.now c.loop-field.yielded c.into_iter-field-iterator.result c.loop-field.field-iterator c.next.new.self _ (cc) (cc) c.loop-field.yielded_by (c.in-Some.field, c.in-Some.value) c.in-Some.is c.next.ensures.steps in
    let more = length_push c.loop-field.yielded (c.in-Some.field, c.in-Some.value) in
    let e = fields_next c.args.fields.now c.args.values.now n _ f v more at.0 at.1 (at.2 f) (at.3 v) in
    puts_same (301 * n + 301) _ _ _ _ _ e (omega (arith, more)) (puts_both (301 * n) 301 _ _ _ _ _ c.loop-field.invariant c.put_field.ensures)

pub returns : goal.returns
returns c =
    let n = length c.loop-field.yielded in
    let end = zip_end c.args.fields.now c.args.values.now c.loop-field.yielded c.into_iter-field-iterator.result c.loop-field.field-iterator c.next.new.self _ (cc) (cc) c.loop-field.yielded_by c.in-None.is c.next.ensures.steps in
    puts_same (301 * n) _ _ _ _ _ (fields_all c.args.fields.now c.args.values.now n end) (omega (arith, end)) c.loop-field.invariant

use Rattle.std.proofs.Common.{length, sym, ap, arith}
use Rattle.records.specs.Tables.{fields_of}
use Rattle.writing.specs.Texts.{type_text, fields_text, record_text}
use Rattle.writing.proofs.OutputLaws.{puts_same, puts_both}
use Rattle.writing.proofs.RecordLaws.{fields_few, type_long, record_is}
use Rattle.writing.proofs.output.Output.put_record.Goals as goal

pub returns : goal.returns
returns c =
    let t = c.args.kind in
    let vs = c.args.values.now in
    let kind = puts_same _ 2 _ _ (type_text t) _ c.type_text.ensures (omega (arith, ap length c.type_text.ensures, type_long t)) c.put.ensures in
    let fields = puts_same _ 6622 _ _ (fields_text (fields_of t) vs) _ (ap (λ fs. fields_text fs vs) c.fields_of.ensures) (omega (arith, ap length c.fields_of.ensures, fields_few t)) c.put_fields.ensures in
    puts_same _ 7000 _ _ (record_text t vs) _ (sym (record_is t vs)) (omega arith) (puts_both _ _ _ _ _ _ _ kind (puts_both _ _ _ _ _ _ _ fields c.put-2.ensures))

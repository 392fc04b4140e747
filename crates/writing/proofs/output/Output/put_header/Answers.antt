use Rattle.std.proofs.Common.{ap, arith}
use Rattle.records.specs.declared.record.Record.TheVariants as rec
use Rattle.writing.specs.Texts.{record_text}
use Rattle.writing.specs.Values.{satellite_values}
use Rattle.writing.specs.Files.{header_text}
use Rattle.writing.proofs.OutputLaws.{puts_same, puts_both}
use Rattle.writing.proofs.RecordLaws.{most_if_le}
use Rattle.writing.proofs.FileLaws.{header_is}
use Rattle.writing.proofs.output.Output.put_header.Goals as goal

pub returns : goal.returns
returns c =
    let h = c.args.header.now in
    let k = c.args.cells.now in
    let satellite = puts_same 7000 7000 _ _ (record_text rec.H2 (satellite_values h.satellite k)) _ (ap (record_text rec.H2) c.satellite_values.ensures) (omega arith) c.put_record.ensures in
    let rest = puts_both _ _ _ _ _ _ _ c.put-2.ensures (puts_both _ _ _ _ _ _ _ c.put-3.ensures c.put_record-2.ensures) in
    let all = puts_both _ _ _ _ _ _ _ c.put.ensures (puts_both _ _ _ _ _ _ _ satellite rest) in
    puts_same _ 35000 _ _ (header_text h k) _ (header_is h k) (omega (arith, most_if_le 7000 h.accuracy, most_if_le 7000 h.offset)) all

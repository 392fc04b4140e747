use Rattle.std.proofs.Common.{ap, arith}
use Rattle.records.specs.declared.record.Record.TheVariants as rec
use Rattle.writing.specs.Texts.{record_text}
use Rattle.writing.specs.Values.{position_values}
use Rattle.writing.specs.Files.{row_text}
use Rattle.writing.proofs.OutputLaws.{puts_same, puts_both}
use Rattle.writing.proofs.RecordLaws.{most_if_le}
use Rattle.writing.proofs.FileLaws.{row_is}
use Rattle.writing.proofs.rows.RowText.put.Goals as goal

pub returns : goal.returns
returns c =
    let r = c.args.self.now in
    let position = puts_same 7000 7000 _ _ (record_text rec.Position (position_values r)) _ (ap (record_text rec.Position) c.position_values.ensures) (omega arith) c.put_record.ensures in
    puts_same _ 14000 _ _ (row_text r) _ (row_is r) (omega (arith, most_if_le 7000 r.velocity)) (puts_both _ _ _ _ _ _ _ position c.put.ensures)

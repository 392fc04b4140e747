use Rattle.std.proofs.Common.{arith}
use Rattle.writing.proofs.OutputLaws.{puts_same, puts_both}
use Rattle.writing.proofs.FileLaws.{file_is}
use Rattle.writing.proofs.file.FileText.put.Goals as goal

pub returns : goal.returns
returns c =
    let f = c.args.self.now in
    puts_same _ _ _ _ _ _ (file_is f.cells f.header.now f.rows.now) (omega arith) (puts_both _ _ _ _ _ _ _ c.put_header.ensures (puts_both _ _ _ _ _ _ _ c.put_rows.ensures c.put_record.ensures))

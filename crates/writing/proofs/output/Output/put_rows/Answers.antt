use Rattle.std.proofs.Common.{◌*◌, arith}
use Rattle.writing.specs.Files.{rows_text}
use Rattle.writing.proofs.OutputLaws.{puts_none, puts_same, puts_both}
use Rattle.writing.proofs.FileLaws.{rows_next}
use Rattle.writing.proofs.output.Output.put_rows.Goals as goal

pub loop-row-init : goal.loop-row-init
unfolding rows_text
loop-row-init c = puts_none c.args.self.now

pub loop-row-preserved : goal.loop-row-preserved
loop-row-preserved c =
    let e = rows_next c.args.rows.now c.loop-row.row-index c.row-item.result c.loop-row-test.true c.row-item.is in
    puts_same _ _ _ _ _ _ e (omega arith) (puts_both (14000 * c.loop-row.row-index) 14000 _ _ _ _ _ c.loop-row.invariant c.put.ensures)

use Rattle.tables.proofs.Places.{place_got}
use Rattle.tables.proofs.row_table.reads.RowTablePredictionTable.row.Goals as goal

pub returns : goal.returns
returns c = place_got c.args.self.now.rows.now c.args.i c.get.result c.copied.result _ c.get.ensures.lookup c.copied.ensures c.ok_or.ensures.value

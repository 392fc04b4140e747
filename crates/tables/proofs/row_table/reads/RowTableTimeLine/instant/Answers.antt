use Rattle.std.proofs.lemmas.Result.{err_from_is_err_and}
use Rattle.tables.specs.Lines.{time_of}
use Rattle.tables.proofs.Places.{place_map, place_map_err}
use Rattle.tables.proofs.row_table.reads.RowTableTimeLine.instant.Goals as goal

pub returns-in_err-row : goal.returns-in_err-row
returns-in_err-row c =
    let p = err_from_is_err_and c.from_residual.result c.from_residual.ensures.1 in
    rw (p.1, p.2) (place_map_err time_of c.args.self.now.rows.now c.args.i _ c.in_err-row.ensures)

pub returns : goal.returns
returns c = place_map time_of c.args.self.now.rows.now c.args.i _ c.in_ok-row.ensures

use Rattle.std.proofs.lemmas.Result.{err_from_is_err_and}
use Rattle.tables.specs.Lines.{time_of}
use Rattle.tables.proofs.Places.{place_map, place_map_err}
use Rattle.shifts.specs.Stacks.{piled}
use Rattle.shifts.proofs.stacks.StackTimeLine.instant.Goals as goal

pub returns-in_err-stacked_read : goal.returns-in_err-stacked_read
returns-in_err-stacked_read g c =
    let p = err_from_is_err_and c.from_residual.result c.from_residual.ensures.1 in
    rw (p.1, p.2) (place_map_err time_of (piled c.args.self.now.shifts.now (g.T.PredictionTable.rows c.args.self.now.below.now)) c.args.i _ c.in_err-stacked_read.ensures)

pub returns : goal.returns
returns g c = place_map time_of (piled c.args.self.now.shifts.now (g.T.PredictionTable.rows c.args.self.now.below.now)) c.args.i _ c.in_ok-stacked_read.ensures.row

use Rattle.std.proofs.Common.{◌-◌, arith}
use Rattle.tables.proofs.Places.{place_in, place_within}
use Rattle.tables.proofs.Orders.{same_length}
use Rattle.tables.proofs.lines.PredictionTable.row_and_ends.Goals as goal

pub unwrap-first-requires : goal.unwrap-first-requires
unwrap-first-requires g c =
    let w = place_within (g.Self.PredictionTable.rows c.args.self.now) c.args.i c.in_ok-row.row c.in_ok-row.ensures in
    place_in (g.Self.PredictionTable.rows c.args.self.now) 0 _ c.row-2.ensures (omega arith)

pub unwrap-last-requires : goal.unwrap-last-requires
unwrap-last-requires g c =
    let n = same_length (g.Self.TimeLine.instants c.args.self.now) (g.Self.PredictionTable.rows c.args.self.now) c.by_rows.ensures in
    let w = place_within (g.Self.PredictionTable.rows c.args.self.now) c.args.i c.in_ok-row.row c.in_ok-row.ensures in
    place_in (g.Self.PredictionTable.rows c.args.self.now) (c.count.result - 1) _ c.row-3.ensures (omega arith)

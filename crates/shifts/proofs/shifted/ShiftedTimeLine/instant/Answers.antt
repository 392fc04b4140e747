use Rattle.std.proofs.Common.{ℤ, ap, ◌∙◌, w64, SFits, rules}
use Rattle.std.proofs.lemmas.Int.{to_z-of_z}
use Rattle.tables.specs.Lines.{time_of, place}
use Rattle.tables.proofs.Places.{place_map, place_map_err}
use Rattle.shifts.specs.Shifts.{shift_rows}
use Rattle.shifts.proofs.shifted.ShiftedTimeLine.instant.Goals as goal

pub returns-in-Ok : goal.returns-in-Ok
returns-in-Ok g c =
    let f : SFits w64 c.args.self.now.shift = search rules in
    place_map time_of (shift_rows c.args.self.now.shift (g.T.PredictionTable.rows c.args.self.now.below.now)) c.args.i c.in-Ok.read.row
    (c.in-Ok.ensures.row ∙ ap (λ (v : ℤ). place (shift_rows v (g.T.PredictionTable.rows c.args.self.now.below.now)) c.args.i) (to_z-of_z w64 c.args.self.now.shift f))

pub returns-in-Err : goal.returns-in-Err
returns-in-Err g c =
    let f : SFits w64 c.args.self.now.shift = search rules in
    place_map_err time_of (shift_rows c.args.self.now.shift (g.T.PredictionTable.rows c.args.self.now.below.now)) c.args.i c.in-Err.e
    (c.in-Err.ensures ∙ ap (λ (v : ℤ). place (shift_rows v (g.T.PredictionTable.rows c.args.self.now.below.now)) c.args.i) (to_z-of_z w64 c.args.self.now.shift f))

use Rattle.std.proofs.Common.{◌≡◌, [], ◌∷◌, ap, w64}
use Rattle.std.proofs.lemmas.Result.{err_from_is_err_and}
use Rattle.std.proofs.lemmas.Int.{to_z-of_z}
use Rattle.shifts.specs.Stacks.{window_under}
use Rattle.shifts.proofs.Stacked.{accepted_answers, shift_taken, shift_refused, under_refused, under_one}
use Rattle.shifts.proofs.stacks.window_under.Goals as goal

pub returns-in_err-set_shift : goal.returns-in_err-set_shift
returns-in_err-set_shift g c =
    let p = err_from_is_err_and c.from_residual.result c.from_residual.ensures.1 in
    let q = shift_refused c.args.shift _ (g.T.PredictionTable.rows c.args.t.now) (g.T.PredictionTable.rows c.new-shifted.result.below.now) _
    (to_z-of_z w64 c.args.shift c.ranges.shift) (ap g.T.PredictionTable.rows c.new-shifted.ensures.below) c.in_err-set_shift.ensures.answer in
    let a : c.from_residual.result ≡ window_under (c.args.shift ∷ []) (g.T.PredictionTable.rows c.args.t.now) c.args.at.day c.args.at.micros =
    rw (p.1, p.2) (under_refused c.args.shift (g.T.PredictionTable.rows c.args.t.now) c.args.at.day c.args.at.micros _ q) in
    record { answer = a; law = accepted_answers (c.args.shift ∷ []) (g.T.PredictionTable.rows c.args.t.now) c.args.at.day c.args.at.micros _ a }

pub returns : goal.returns
returns g c =
    let q = shift_taken c.args.shift _ (g.T.PredictionTable.rows c.args.t.now) (g.T.PredictionTable.rows c.new-shifted.result.below.now) _ _ _
    (to_z-of_z w64 c.args.shift c.ranges.shift) (ap g.T.PredictionTable.rows c.new-shifted.ensures.below) (ap g.T.PredictionTable.rows c.in_ok-set_shift.ensures.below)
    c.in_ok-set_shift.ensures.answer c.in_ok-set_shift.ensures.shift in
    let a = under_one c.args.shift (g.T.PredictionTable.rows c.args.t.now) _ c.args.at.day c.args.at.micros c.window.result q c.window.ensures in
    record { answer = a; law = accepted_answers (c.args.shift ∷ []) (g.T.PredictionTable.rows c.args.t.now) c.args.at.day c.args.at.micros _ a }

use Rattle.std.proofs.Common.{◌≡◌, sym, ◌∙◌}
use Rattle.tables.specs.Windows.{window_if}
use Rattle.shifts.specs.Stacks.{piled, window_under}
use Rattle.shifts.proofs.Stacked.{accepted_answers}
use Rattle.shifts.proofs.stacks.window_under_all.Goals as goal

pub returns-clause-law : goal.returns-clause-law
returns-clause-law g c = λ h.
    let rows = g.T.PredictionTable.rows c.args.t.now in
    let a : window_under c.args.shifts.now rows c.args.at.day c.args.at.micros ≡ window_if (piled c.args.shifts.now rows) c.args.at.day c.args.at.micros = rw h in
    accepted_answers c.args.shifts.now rows c.args.at.day c.args.at.micros c.window.result (c.window.ensures ∙ sym a) h

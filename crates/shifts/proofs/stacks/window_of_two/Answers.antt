use Rattle.std.proofs.Common.{[], ◌∷◌}
use Rattle.shifts.proofs.Stacked.{stack_answers}
use Rattle.shifts.proofs.stacks.window_of_two.Goals as goal

pub returns : goal.returns
returns g c = record {
  answer = c.window.ensures;
  law = stack_answers (c.args.t.now.shift ∷ (c.args.t.now.below.now.shift ∷ [])) (g.T.PredictionTable.rows c.args.t.now.below.now.below.now) c.args.at.day c.args.at.micros
      c.window.result c.window.ensures;
}

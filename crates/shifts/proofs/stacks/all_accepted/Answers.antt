use Rattle.std.proofs.Common.{◌+◌, ◌-◌, get_or, pos, w64, SFits, arith, rules}
use Rattle.std.proofs.lemmas.Int.{to_z-of_z}
use Rattle.std.proofs.lemmas.List.{take_rest}
use Rattle.shifts.proofs.Stacked.{refused_at}
use Rattle.shifts.proofs.stacks.all_accepted.Goals as goal

pub returns-then-not-accepts : goal.returns-then-not-accepts
returns-then-not-accepts g c =
    let ss = c.args.shifts.now in
    let n = c.loop-n.n - 1 in
    let f : SFits w64 (get_or ss n (pos 0)) = search rules in
    refused_at ss (g.T.PredictionTable.rows c.args.below.now) n _ _ (omega arith) (to_z-of_z w64 (get_or ss n (pos 0)) f) (take_rest ss (n + 1)) c.if-not-accepts.ensures

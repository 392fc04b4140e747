use Rattle.std.proofs.Common.{◌≡◌, ◌-◌, ◌+◌, drop, get_or, pos, sym, subst, w64, SFits, arith, rules}
use Rattle.std.proofs.lemmas.Int.{to_z-of_z}
use Rattle.std.proofs.lemmas.Result.{err_from_is_err_and}
use Rattle.tables.specs.Ends.{EndsRead}
use Rattle.shifts.specs.Stacks.{piled}
use Rattle.shifts.proofs.Stacked.{piled_at, piled_err}
use Rattle.shifts.proofs.stacks.stacked_read.Goals as goal

pub returns-in_err-read : goal.returns-in_err-read
returns-in_err-read g c =
    let p = err_from_is_err_and c.from_residual.result c.from_residual.ensures.1 in
    rw (p.1, p.2) (piled_err c.args.shifts.now (g.T.PredictionTable.rows c.args.below.now) c.args.i _ c.in_err-read.ensures)

pub loop-n-preserved : goal.loop-n-preserved
loop-n-preserved g c =
    let ss = c.args.shifts.now in
    let rows = g.T.PredictionTable.rows c.args.below.now in
    let n = c.loop-n.n - 1 in
    let above : n + 1 ≡ c.loop-n.n = omega arith in
    let f : SFits w64 (get_or ss n (pos 0)) = search rules in
    let under = subst (λ k. EndsRead (piled (drop k ss) rows) c.args.i c.loop-n.read) (sym above) c.loop-n.invariant.0 in (
      subst (λ l. EndsRead l c.args.i c.moved_read-read.result) (piled_at ss rows n _ (omega arith) (to_z-of_z w64 (get_or ss n (pos 0)) f))
          (c.moved_read-read.ensures (piled (drop (n + 1) ss) rows) c.args.i under),
      omega arith,
    )

pub returns : goal.returns
returns g c =
    let none : c.loop-n.n ≡ 0 = omega arith in
    subst (λ k. EndsRead (piled (drop k c.args.shifts.now) (g.T.PredictionTable.rows c.args.below.now)) c.args.i c.loop-n.read) none c.loop-n.invariant.0

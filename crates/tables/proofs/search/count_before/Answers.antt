use Rattle.std.proofs.Common.{◌≡◌, ℕ, ◌-◌, ◌/◌, ◌%◌, Err, ap, ◌∙◌, subst, arith}
use Rattle.calendar.specs.Instants.{moment, instant_if}
use Rattle.calendar.proofs.Moments.{moment_bounds}
use Rattle.tables.specs.Lines.{not_after}
use Rattle.tables.proofs.Earlier.{earlier_is, earlier_first, split_moment}
use Rattle.tables.proofs.search.count_before.Goals as goal

pub returns-in-Ok : goal.returns-in-Ok
returns-in-Ok g c =
    let ts = g.T.TimeLine.instants c.args.t.now in
    let m = moment c.args.at in
    let b = moment_bounds c.args.at in
    let k : c.joined.result - 1 ≡ m - 1 = ap (λ (n : ℕ). n - 1) c.joined.ensures in
    let s = split_moment (c.joined.result - 1) c.in-Ok.previous c.in-Ok.ensures in
    c.count_not_after.ensures ∙ ap (not_after ts) (s ∙ k) ∙ earlier_is ts m (let x = b.0 in omega arith)

pub returns-in-Err : goal.returns-in-Err
returns-in-Err g c =
    let ts = g.T.TimeLine.instants c.args.t.now in
    earlier_first ts c.args.at c.in-Err.field-0 (subst (λ (n : ℕ). Err c.in-Err.field-0 ≡ instant_if ((n - 1) / 86400000000) ((n - 1) % 86400000000)) c.joined.ensures c.in-Err.ensures)

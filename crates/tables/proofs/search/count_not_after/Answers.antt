use Rattle.std.proofs.Common.{◌≡◌, ◌+◌, ◌-◌, ◌/◌, sym, ◌∙◌, arith}
use Rattle.tables.proofs.Places.{place_in}
use Rattle.tables.proofs.Orders.{low_more, high_more, not_after_at}
use Rattle.tables.proofs.search.count_not_after.Goals as goal

pub unwrap-here-requires : goal.unwrap-here-requires
unwrap-here-requires g c = place_in (g.T.TimeLine.instants c.args.t.now) (c.loop-low.low + (c.loop-low.high - c.loop-low.low) / 2) _ c.instant.ensures (omega arith)

pub loop-low-preserved-then-joined-limit : goal.loop-low-preserved-then-joined-limit
loop-low-preserved-then-joined-limit g c =
    (omega arith, omega arith, low_more _ _ _ _ _ c.in_order.ensures.ascending (omega arith) (sym c.unwrap-here.ensures ∙ c.instant.ensures) (omega arith) (omega arith), c.loop-low.invariant.3)

pub loop-low-preserved : goal.loop-low-preserved
loop-low-preserved g c =
    (omega arith, omega arith, c.loop-low.invariant.2, high_more _ _ _ _ c.in_order.ensures.ascending (omega arith) (sym c.unwrap-here.ensures ∙ c.instant.ensures) (omega arith))

pub returns : goal.returns
returns g c =
    let e : c.loop-low.high ≡ c.loop-low.low = omega arith in
    rw (sym c.joined-limit.ensures) (sym (not_after_at _ _ _ (omega arith) c.loop-low.invariant.2 (λ k d h. c.loop-low.invariant.3 k d (omega arith))))

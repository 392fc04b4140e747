use Rattle.std.proofs.Common.{length, sym, ap, ◌∙◌, arith}
use Rattle.edits.proofs.PasteLaws.{some_of, no_summary, no_first_flag, velocities, at_place, too_many, first_flag, last_flag, exceeds, ready}
use Rattle.edits.proofs.paste.place_paste.Goals as goal
use Rattle.edits.proofs.paste.place_paste.Goals.{then-not-last_allows-via-then-not-last_allows, then-not-last_allows-via-else-not-last_allows+then-not-allows_first}

pub unwrap-summary-requires : goal.unwrap-summary-requires
unwrap-summary-requires c = some_of c.in_ok-scan.scan.summary (no_summary c.args.block.now c.in_ok-scan.scan (sym c.in_ok-scan.ensures))

pub returns-then-velocities_differ : goal.returns-then-velocities_differ
returns-then-velocities_differ c =
    velocities c.args.room c.args.hold c.args.rows.rows.now c.args.block.now c.in_ok-scan.scan c.in_ok-scan.ensures c.unwrap-summary.result c.unwrap-summary.ensures c.requires (sym c.if-velocities_differ.ensures)

pub taken-taken-requires : goal.taken-taken-requires
taken-taken-requires c =
    (at_place c.args.room c.args.hold c.args.rows.rows.now c.args.block.now c.in_ok-scan.scan c.in_ok-scan.ensures c.unwrap-summary.result c.unwrap-summary.ensures c.requires
    (sym c.if-velocities_differ.ensures) c.find-place.result c.find-place.ensures.first c.find-place.ensures.end c.find-place.ensures.put).order

pub overflow_sub-rows : goal.overflow_sub-rows
overflow_sub-rows c =
    let n = ap length c.rows.ensures in
    let p = at_place c.args.room c.args.hold c.args.rows.rows.now c.args.block.now c.in_ok-scan.scan c.in_ok-scan.ensures c.unwrap-summary.result c.unwrap-summary.ensures c.requires
    (sym c.if-velocities_differ.ensures) c.find-place.result c.find-place.ensures.first c.find-place.ensures.end c.find-place.ensures.put in
    let i = p.inside in
    omega arith

pub returns-then-saturating_add-min : goal.returns-then-saturating_add-min
returns-then-saturating_add-min c =
    let n = ap length c.rows.ensures in
    let s = c.saturating_add.ensures in
    let m = c.min.ensures in
    too_many c.args.room c.args.hold c.args.rows.rows.now c.args.block.now c.in_ok-scan.scan c.in_ok-scan.ensures c.unwrap-summary.result c.unwrap-summary.ensures c.requires
    (sym c.if-velocities_differ.ensures) c.find-place.result c.find-place.ensures.first c.find-place.ensures.end c.find-place.ensures.put (omega arith)

pub last_allows-requires : goal.last_allows-requires
last_allows-requires c =
    let p = at_place c.args.room c.args.hold c.args.rows.rows.now c.args.block.now c.in_ok-scan.scan c.in_ok-scan.ensures c.unwrap-summary.result c.unwrap-summary.ensures c.requires
    (sym c.if-velocities_differ.ensures) c.find-place.result c.find-place.ensures.first c.find-place.ensures.end c.find-place.ensures.put in
    let i = p.inside in
    let o = p.order in
    omega arith

pub unwrap-flag-requires : goal.unwrap-flag-requires
unwrap-flag-requires c = some_of c.first_flag.result (λ e. no_first_flag c.args.block.now c.in_ok-scan.scan (sym c.in_ok-scan.ensures) (sym c.first_flag.ensures ∙ e))

pub returns-then-not-last_allows : goal.returns-then-not-last_allows
returns-then-not-last_allows c =
    let n = ap length c.rows.ensures in
    let s = c.saturating_add.ensures in
    let m = c.min.ensures in
    elim c.then-not-last_allows.branch [
      | then-not-last_allows-via-then-not-last_allows w ↦ first_flag c.args.room c.args.hold c.args.rows.rows.now c.args.block.now c.in_ok-scan.scan c.in_ok-scan.ensures c.unwrap-summary.result c.unwrap-summary.ensures c.requires
          (sym c.if-velocities_differ.ensures) c.find-place.result c.find-place.ensures.first c.find-place.ensures.end c.find-place.ensures.put (omega arith) c.unwrap-flag.result (sym c.first_flag.ensures ∙ c.unwrap-flag.ensures) (sym w.if-not-last_allows.ensures)
      | then-not-last_allows-via-else-not-last_allows+then-not-allows_first w ↦ last_flag c.args.room c.args.hold c.args.rows.rows.now c.args.block.now c.in_ok-scan.scan c.in_ok-scan.ensures c.unwrap-summary.result c.unwrap-summary.ensures c.requires
          (sym c.if-velocities_differ.ensures) c.find-place.result c.find-place.ensures.first c.find-place.ensures.end c.find-place.ensures.put (omega arith) c.unwrap-flag.result (sym c.first_flag.ensures ∙ c.unwrap-flag.ensures) (sym w.if-not-last_allows.ensures) (sym w.if-not-allows_first.ensures)
    ]

pub returns-then-taken-hold : goal.returns-then-taken-hold
returns-then-taken-hold c =
    let n = ap length c.rows.ensures in
    let s = c.saturating_add.ensures in
    let m = c.min.ensures in
    exceeds c.args.room c.args.hold c.args.rows.rows.now c.args.block.now c.in_ok-scan.scan c.in_ok-scan.ensures c.unwrap-summary.result c.unwrap-summary.ensures c.requires
    (sym c.if-velocities_differ.ensures) c.find-place.result c.find-place.ensures.first c.find-place.ensures.end c.find-place.ensures.put (omega arith) c.unwrap-flag.result (sym c.first_flag.ensures ∙ c.unwrap-flag.ensures) (sym c.if-not-last_allows.ensures) (sym c.if-not-allows_first.ensures) (omega arith)

pub returns : goal.returns
returns c =
    let n = ap length c.rows.ensures in
    let s = c.saturating_add.ensures in
    let m = c.min.ensures in
    ready c.args.room c.args.hold c.args.rows.rows.now c.args.block.now c.in_ok-scan.scan c.in_ok-scan.ensures c.unwrap-summary.result c.unwrap-summary.ensures c.requires
    (sym c.if-velocities_differ.ensures) c.find-place.result c.find-place.ensures.first c.find-place.ensures.end c.find-place.ensures.put (omega arith) c.unwrap-flag.result (sym c.first_flag.ensures ∙ c.unwrap-flag.ensures) (sym c.if-not-last_allows.ensures) (sym c.if-not-allows_first.ensures) (omega arith)

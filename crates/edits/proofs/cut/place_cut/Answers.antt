use Rattle.edits.proofs.CutLaws.{decided}
use Rattle.edits.proofs.cut.place_cut.Goals as goal

pub returns : goal.returns
returns c =
    decided c.args.hold c.args.from.day c.args.from.micros c.args.to.day c.args.to.micros c.args.rows.rows.now c.in_ok-from.from c.in_ok-to.to c.place_between.result
    c.in_ok-from.ensures c.in_ok-to.ensures c.place_between.ensures

use Rattle.std.proofs.Common.{length, ap, arith}
use Rattle.calendar.specs.Instants.{moment}
use Rattle.tables.proofs.Moments.{lt_true, lt_false}
use Rattle.edits.proofs.CutLaws.{backwards, at_place, nothing, every, exceeds, ready}
use Rattle.edits.proofs.cut.place_between.Goals as goal

pub returns-then-lt : goal.returns-then-lt
returns-then-lt c = backwards c.args.hold (moment c.args.from) (moment c.args.to) c.args.rows.rows.now (lt_true c.args.to c.args.from c.if-lt.ensures)

pub taken-taken-requires : goal.taken-taken-requires
taken-taken-requires c =
    (at_place c.args.hold (moment c.args.from) (moment c.args.to) c.args.rows.rows.now c.find-place.result (lt_false c.args.to c.args.from c.if-lt.ensures) c.requires
    c.find-place.ensures.first c.find-place.ensures.end c.find-place.ensures.put).order

pub returns-then-taken-eq0 : goal.returns-then-taken-eq0
returns-then-taken-eq0 c =
    nothing c.args.hold (moment c.args.from) (moment c.args.to) c.args.rows.rows.now c.find-place.result (lt_false c.args.to c.args.from c.if-lt.ensures) c.requires
    c.find-place.ensures.first c.find-place.ensures.end c.find-place.ensures.put (omega arith)

pub returns-then-taken-rows : goal.returns-then-taken-rows
returns-then-taken-rows c =
    let n = ap length c.rows.ensures in
    every c.args.hold (moment c.args.from) (moment c.args.to) c.args.rows.rows.now c.find-place.result (lt_false c.args.to c.args.from c.if-lt.ensures) c.requires
    c.find-place.ensures.first c.find-place.ensures.end c.find-place.ensures.put (omega arith) (omega arith)

pub returns-then-taken-hold : goal.returns-then-taken-hold
returns-then-taken-hold c =
    let n = ap length c.rows.ensures in
    let p = at_place c.args.hold (moment c.args.from) (moment c.args.to) c.args.rows.rows.now c.find-place.result (lt_false c.args.to c.args.from c.if-lt.ensures) c.requires
    c.find-place.ensures.first c.find-place.ensures.end c.find-place.ensures.put in
    exceeds c.args.hold (moment c.args.from) (moment c.args.to) c.args.rows.rows.now c.find-place.result (lt_false c.args.to c.args.from c.if-lt.ensures) c.requires
    c.find-place.ensures.first c.find-place.ensures.end c.find-place.ensures.put (omega arith) (omega arith) (omega arith)

pub returns : goal.returns
returns c =
    let n = ap length c.rows.ensures in
    let p = at_place c.args.hold (moment c.args.from) (moment c.args.to) c.args.rows.rows.now c.find-place.result (lt_false c.args.to c.args.from c.if-lt.ensures) c.requires
    c.find-place.ensures.first c.find-place.ensures.end c.find-place.ensures.put in
    ready c.args.hold (moment c.args.from) (moment c.args.to) c.args.rows.rows.now c.find-place.result (lt_false c.args.to c.args.from c.if-lt.ensures) c.requires
    c.find-place.ensures.first c.find-place.ensures.end c.find-place.ensures.put (omega arith) (omega arith) (omega arith)

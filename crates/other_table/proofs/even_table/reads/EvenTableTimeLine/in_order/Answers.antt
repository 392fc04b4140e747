use Rattle.std.proofs.Common.{◌*◌, arith}
use Rattle.std.proofs.lemmas.List.{length-map}
use Rattle.calendar.specs.Instants.{moment}
use Rattle.calendar.proofs.Moments.{moment_bounds}
use Rattle.tables.specs.Lines.{time_of}
use Rattle.tables.proofs.Orders.{ascends_up}
use Rattle.other_table.specs.Meaning.{even_rows}
use Rattle.other_table.proofs.Evens.{length_from, ascends_from}
use Rattle.other_table.proofs.even_table.reads.EvenTableTimeLine.in_order.Goals as goal

pub returns : goal.returns
returns c =
    let b = moment_bounds c.args.self.now.first in
    let p = c.args.self.now.rising in
    let f = c.args.self.now.few in
    record {
      ascending = ascends_up (even_rows c.args.self.now)
          (ascends_from (moment c.args.self.now.first) (c.args.self.now.seconds * 1000000) c.args.self.now.count b.0 (omega arith) c.args.self.now.inside);
      short =
          let e = length-map (even_rows c.args.self.now) time_of in
          let n = length_from (moment c.args.self.now.first) (c.args.self.now.seconds * 1000000) c.args.self.now.count in
          omega arith;
    }

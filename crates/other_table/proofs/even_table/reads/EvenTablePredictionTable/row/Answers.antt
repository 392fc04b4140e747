use Rattle.std.proofs.Common.{◌*◌, arith}
use Rattle.calendar.specs.Instants.{moment}
use Rattle.calendar.proofs.Moments.{moment_bounds}
use Rattle.tables.proofs.Places.{place_past}
use Rattle.other_table.specs.Meaning.{even_rows}
use Rattle.other_table.proofs.Evens.{length_from, read_err, read_ok}
use Rattle.other_table.proofs.even_table.reads.EvenTablePredictionTable.row.Goals as goal

pub returns-then-i-self : goal.returns-then-i-self
returns-then-i-self c =
    let n = length_from (moment c.args.self.now.first) (c.args.self.now.seconds * 1000000) c.args.self.now.count in
    place_past (even_rows c.args.self.now) c.args.i (omega arith)

pub returns-in_err-at : goal.returns-in_err-at
returns-in_err-at c =
    let b = moment_bounds c.args.self.now.first in
    absurd (read_err (moment c.args.self.now.first) c.args.i (c.args.self.now.seconds * 1000000) c.args.self.now.count _ (omega arith) b.0 c.args.self.now.inside c.in_err-at.ensures)

pub returns : goal.returns
returns c =
    let b = moment_bounds c.args.self.now.first in
    read_ok (moment c.args.self.now.first) c.args.i (c.args.self.now.seconds * 1000000) c.args.self.now.count c.in_ok-at.at c.blank.result c.blank.ensures.rest (omega arith) b.0 c.args.self.now.inside c.in_ok-at.ensures

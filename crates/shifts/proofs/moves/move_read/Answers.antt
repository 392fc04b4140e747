use Rattle.std.proofs.Common.{w64}
use Rattle.std.proofs.lemmas.Result.{err_from_is_err_and}
use Rattle.std.proofs.lemmas.Int.{to_z-of_z}
use Rattle.std.proofs.lemmas.Bool.{and_left, and_right}
use Rattle.shifts.specs.Shifts.{stays}
use Rattle.shifts.proofs.Rows.{row_moved, row_out, read_out, read_in}
use Rattle.shifts.proofs.moves.move_read.Goals as goal

pub returns-in_err-first : goal.returns-in_err-first
returns-in_err-first c =
    let p = err_from_is_err_and c.from_residual-in_err-first.result c.from_residual-in_err-first.ensures.1 in
    let o = row_out c.args.shift _ c.args.read.first _ (to_z-of_z w64 c.args.shift c.ranges.shift) c.in_err-first.ensures in
    rw (p.1, p.2) (read_out c.args.shift c.args.read _ (and_right (stays c.args.shift c.args.read.row.at) _ (and_left (stays c.args.shift c.args.read.first.at) _ o.0)) o.1)

pub returns-in_err-last : goal.returns-in_err-last
returns-in_err-last c =
    let p = err_from_is_err_and c.from_residual-in_err-last.result c.from_residual-in_err-last.ensures.1 in
    let o = row_out c.args.shift _ c.args.read.last _ (to_z-of_z w64 c.args.shift c.ranges.shift) c.in_err-last.ensures in
    rw (p.1, p.2) (read_out c.args.shift c.args.read _ (and_right (stays c.args.shift c.args.read.row.at) _ (and_right (stays c.args.shift c.args.read.first.at) _ o.0)) o.1)

pub returns : goal.returns
returns c =
    let z = to_z-of_z w64 c.args.shift c.ranges.shift in
    read_in c.args.shift c.args.read c.in_ok-row.row c.in_ok-first.first c.in_ok-last.last
    (row_moved c.args.shift _ c.args.read.row c.in_ok-row.row z c.in_ok-row.ensures)
    (row_moved c.args.shift _ c.args.read.first c.in_ok-first.first z c.in_ok-first.ensures)
    (row_moved c.args.shift _ c.args.read.last c.in_ok-last.last z c.in_ok-last.ensures)

use Rattle.std.proofs.Common.{min, [], length}
use Rattle.journal.specs.declared.journal.Edit.TheVariants.{Cut}
use Rattle.edits.specs.Checks.{cut_of, joined}
use Rattle.sheet.specs.Sheets.{view, rows_of, row_memory, taken_memory}
use Rattle.sheet.proofs.SoundLaws.{rows_fit}
use Rattle.sheet.proofs.ChangeLaws.{ready_at}
use Rattle.sheet.proofs.sheet.Sheet.cut.Goals as goal

pub make-requires : goal.make-requires
make-requires c =
    let s = c.args.self.now in
    ready_at (length (rows_of s)) (min (length (row_memory s)) 8192) (length (taken_memory s)) Cut [] (rows_of s) (cut_of (joined c.args.from.day c.args.from.micros) (joined c.args.to.day c.args.to.micros) (rows_of s)) c.in_ok-place.place
    (rows_fit (length (row_memory s)) (rows_of s) (view s).journal s.sound).1 c.in_ok-place.ensures.1

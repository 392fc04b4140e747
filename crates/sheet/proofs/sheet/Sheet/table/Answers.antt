use Rattle.std.proofs.Common.{◌≡◌, ◌≤◌, true, length, sym, subst}
use Rattle.tables.specs.Lines.{ascends}
use Rattle.sheet.specs.Sheets.{view, rows_of, row_memory}
use Rattle.sheet.proofs.SoundLaws.{rows_ascend, rows_few}
use Rattle.sheet.proofs.sheet.Sheet.table.Goals as goal

pub new-requires : goal.new-requires
new-requires c =
    let s = c.args.self.now in
    subst (λ rows. (ascends rows ≡ true) × (length rows ≤ 8192)) (sym c.first.ensures)
    (rows_ascend (length (row_memory s)) (rows_of s) (view s).journal s.sound, rows_few (length (row_memory s)) (rows_of s) (view s).journal s.sound)

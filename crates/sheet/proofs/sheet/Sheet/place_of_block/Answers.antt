use Rattle.std.proofs.Common.{◌≡◌, true, length, sym, subst}
use Rattle.edits.specs.Checks.{in_order}
use Rattle.sheet.specs.Sheets.{view, rows_of, row_memory}
use Rattle.sheet.proofs.SoundLaws.{rows_fit}
use Rattle.sheet.proofs.sheet.Sheet.place_of_block.Goals as goal

pub place_paste-requires : goal.place_paste-requires
place_paste-requires c =
    let s = c.args.self.now in
    subst (λ rows. in_order rows ≡ true) (sym c.table.ensures) (rows_fit (length (row_memory s)) (rows_of s) (view s).journal s.sound).0

-- Reading a block is exact.
use Rattle.std.proofs.Common.{◌≡◌, ℕ, ◌+◌, ◌≤◌, Bool, true, false, cond, List, [], length, None, Ok, Err, Result, sym, refl, ap, ◌∙◌, subst}
use Rattle.refusal.specs.declared.Refusal.{Refusal}
use Rattle.refusal.specs.declared.Refusal.TheVariants.{OutOfPlace}
use Rattle.model.specs.declared.Row.{Row}
use Rattle.lines.specs.Texts.{text_of}
use Rattle.reading.specs.declared.scan.Scan.{Scan}
use Rattle.reading.specs.declared.stage.Part.TheVariants.{Block}
use Rattle.reading.specs.Order.{rows_done}
use Rattle.reading.specs.Scans.{started}
use Rattle.reading.specs.Ends.{end_refusal_of, end_refusal}
use Rattle.reading.specs.Texts.{scan_from}
use Rattle.reading.specs.Stores.{rows_on, rows_in}
use Rattle.reading.proofs.TextLaws.{short_text}
use Rattle.format.specs.Format.{Entry, without_comments, AreRows, IsBlock}
use Rattle.format.specs.Laws.{ReadAsBlock, BlocksExact, BlockRowsUnique}
use Rattle.format.proofs.TextLaws.{text_sound, text_complete}
use Rattle.format.proofs.StepLaws.{rows_by, lines_sound, lines_complete, rows_complete}
use Rattle.format.proofs.RowLaws.{block, block_room, body_rows, bare_rows}
use Rattle.format.proofs.OrderLaws.{block_sound}
use Rattle.format.proofs.OrderBack.{block_complete}
use Rattle.format.proofs.Exact.{chained_some, chained_ascend, chained_flags, chained, scanned_part, scan_short}

-- comments add no row
entry_rows : (es : List Entry) (rows : List Row) → AreRows (without_comments es) rows → rows_by es [] ≡ rows
entry_rows es rows made = bare_rows es [] ∙ body_rows (without_comments es) rows made

-- a scan that ended well
ended_well : (u : Scan) (n : ℕ) → u.part ≡ Block → end_refusal u n ≡ Ok tt → rows_done u.stage ≡ true
ended_well u n p q = by_done (rows_done u.stage) (ap (λ z. end_refusal_of z u n) (sym p) ∙ q)
  where
    by_done : (b : Bool) → ◌≡◌ {A = Result (Unit {0}) Refusal} (cond b (Ok tt) (Err (OutOfPlace (n + 1)))) (Ok tt) → b ≡ true
    by_done true h = refl
    by_done false h = cc

lines_block : (bs : List ℕ) (u : Scan) → length bs ≤ 2097152 → scan_from 0 (text_of bs) (started Block None) ≡ Ok u → IsBlock bs (rows_in bs)
lines_block bs u short q =
    let l = lines_sound 0 (text_of bs).lines (text_of bs).ending (started Block None) u q in
    let done = ended_well u l.last (scanned_part l.entries (started Block None) u l.scanned) l.end in
    let r = block_sound l.entries u done l.scanned in
    let same : rows_in bs ≡ r.rows = l.rows [] ∙ entry_rows l.entries r.rows r.made in
    subst (IsBlock bs) (sym same) (
    record {
      short = short;
      lines = (text_of bs).lines;
      text = text_sound bs l.ending;
      entries = l.entries;
      records = l.are;
      made = r.made;
      some = chained_some block r.rows r.chain;
      ascend = chained_ascend block r.rows r.chain;
      flags = chained_flags block r.rows r.chain;
    }
    )

block_of_read : (bs : List ℕ) (rows : List Row) → ReadAsBlock bs rows → IsBlock bs rows
block_of_read bs rows x = let e = scan_short Block None bs x.scan x.accepted in subst (IsBlock bs) x.rows_are (lines_block bs x.scan e.0 e.1)

read_of_block : (bs : List ℕ) (rows : List Row) → IsBlock bs rows → ReadAsBlock bs rows
read_of_block bs rows x =
    let s = started Block None in
    let text = text_complete bs x.lines x.text in
    let b = block_complete x.entries rows x.made (chained block rows x.some x.ascend x.flags (block_room (length rows))) in
    record {
      scan = b.scan;
      accepted = sym (short_text Block None bs s x.short refl) ∙ ap (λ t. scan_from 0 t s) text ∙ lines_complete 0 x.lines x.entries s b.scan x.records b.scanned b.end;
      rows_are = ap (λ t. rows_on 0 t.lines []) text ∙ rows_complete 0 x.lines x.entries s b.scan [] x.records b.scanned ∙ entry_rows x.entries rows x.made;
    }

pub blocks_exact : BlocksExact
blocks_exact bs rows = (block_of_read bs rows, read_of_block bs rows)

pub block_rows_unique : BlockRowsUnique
block_rows_unique bs rows others x y = sym (read_of_block bs rows x).rows_are ∙ (read_of_block bs others y).rows_are

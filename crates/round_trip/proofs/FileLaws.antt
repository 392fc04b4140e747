-- A file is read back.
use Rattle.std.proofs.Common.{◌≡◌, ℕ, ◌+◌, ◌≤◌, min, true, List, [], ◌∷◌, length, Some, Ok, sym, refl, ap, ◌∙◌, subst, append-nil, arith}
use Rattle.cells.specs.declared.summary.Summary.{Summary}
use Rattle.cells.specs.Cells.{extended_by, cells_of, cells_by}
use Rattle.cells.specs.Cells as cells
use Rattle.cells.proofs.CellLaws.{cells_by_lem}
use Rattle.lines.specs.Texts.{at_line, text_of}
use Rattle.model.specs.declared.Row.{Row}
use Rattle.model.specs.declared.header.Header.{Header}
use Rattle.records.specs.declared.record.Record.TheVariants as rec
use Rattle.reading.specs.declared.build.Span.{Span}
use Rattle.reading.specs.declared.scan.Scan.{Scan}
use Rattle.reading.specs.declared.stage.Stage.{Stage}
use Rattle.reading.specs.declared.stage.Stage.TheVariants as at
use Rattle.reading.specs.declared.stage.Part.TheVariants as part
use Rattle.reading.specs.Builds.{span_of}
use Rattle.reading.specs.Ends.{span_agrees, end_refusal}
use Rattle.reading.specs.Order.{rows_done}
use Rattle.reading.specs.Scans.{started, on_ok}
use Rattle.reading.specs.Texts.{scan_lines, scan_from, scan_of}
use Rattle.reading.specs.Stores.{rows_on, rows_in}
use Rattle.reading.proofs.TextLaws.{short_text}
use Rattle.writing.specs.Texts.{record_text}
use Rattle.writing.specs.Values.{satellite_values}
use Rattle.writing.specs.Files.{canonical}
use Rattle.writing.proofs.FileLaws.{file_is}
use Rattle.sheet.specs.Openings.{contents_by}
use Rattle.round_trip.specs.Lines.{all_lines}
use Rattle.round_trip.specs.Contents.{GoodHeader, GoodRows}
use Rattle.format.proofs.Exact.{opening_exact}
use Rattle.round_trip.specs.Files.{FilesReadBack, CanonicalFilesAreFiles, FilesAreShort}
use Rattle.round_trip.proofs.LineLaws.{lines_split}
use Rattle.round_trip.proofs.Passes.{Passes, none_good, passes_both, passes_record}
use Rattle.round_trip.proofs.SpanLaws.{good_cells, span_agrees_lem}
use Rattle.round_trip.proofs.HeaderPasses.{state_of, header_pass}
use Rattle.round_trip.proofs.RowPasses.{rows_room, rows_room_lem, all_pass}

-- a text that is passed as a whole
module _ (text : List ℕ) (k room : ℕ) (u : Scan) (rows : List Row) (p : Passes text k (started part.File (Some room)) [] u rows) where
  lines_are : text_of text ≡ all_lines p.lines
  lines_are = ap text_of p.is ∙ lines_split p.lines p.good

  scan_passed : k ≤ 2097152 → scan_of part.File (Some room) text ≡ on_ok (end_refusal u (0 + length p.lines)) u
  scan_passed small =
      let s = started part.File (Some room) in
      sym (short_text part.File (Some room) text s (omega (arith, p.fits)) refl) ∙ ap (λ t. scan_from 0 t s) lines_are
      ∙ ap (λ l. scan_lines 0 l at_line s) (sym (append-nil p.lines)) ∙ p.scans 0 [] at_line

  rows_passed : rows_in text ≡ rows
  rows_passed = ap (λ t. rows_on 0 t.lines []) lines_are ∙ ap (λ l. rows_on 0 l []) (sym (append-nil p.lines)) ∙ p.stores 0 []

-- the trailer after whole rows
trailer_pass : (room : ℕ) (h : Header) (p : Span) (st : Stage) (m : Summary) (rows : List Row) → rows_done st ≡ true → Passes (record_text rec.Trailer []) 3 (state_of room st h p (Some m)) rows (state_of room at.End h p (Some m)) rows
trailer_pass room h p st m rows done =
    passes_record rec.Trailer [] (none_good rec.Trailer refl) (state_of room st h p (Some m)) (state_of room st h p (Some m)) at.End rows rows refl (rw done) (λ n. refl) refl

-- the whole file
module _ (room : ℕ) (h : Header) (r : Row) (rs : List Row) (g : GoodHeader h) (k : GoodRows (r ∷ rs)) (fits : length (r ∷ rs) ≤ room) where
  abbrev span : Span
  span = span_of (satellite_values h.satellite (cells_of r rs))

  abbrev whole : Summary
  whole = extended_by (cells.started r) rs

  file_pass : Passes (canonical h (r ∷ rs)) (222 + (rows_room (r ∷ rs) + 3)) (started part.File (Some room)) [] (state_of room at.End h span (Some whole)) (r ∷ rs)
  file_pass =
      let all = all_pass room h span r rs fits k in
      subst (λ t. Passes t (222 + (rows_room (r ∷ rs) + 3)) (started part.File (Some room)) [] (state_of room at.End h span (Some whole)) (r ∷ rs)) (file_is (cells_of r rs) h (r ∷ rs))
      (passes_both _ _ 222 (rows_room (r ∷ rs) + 3) _ _ _ _ _ _ (header_pass room h (cells_of r rs) g (good_cells r rs))
      (passes_both _ _ (rows_room (r ∷ rs)) 3 _ _ _ _ _ _ all.passes (trailer_pass room h span all.stage whole (r ∷ rs) all.done)))

  end_good : (n : ℕ) → end_refusal (state_of room at.End h span (Some whole)) n ≡ Ok tt
  end_good n =
      let e : span_agrees span (cells_by whole) ≡ true = ap (span_agrees span) (cells_by_lem r rs) ∙ span_agrees_lem h.satellite (cells_of r rs) (good_cells r rs) in
      rw e

  file_back : room ≤ 8192 → contents_by (scan_of part.File (Some room) (canonical h (r ∷ rs))) (rows_in (canonical h (r ∷ rs))) ≡ Ok (record { header = h; rows = r ∷ rs })
  file_back small =
      let u = state_of room at.End h span (Some whole) in
      let p = file_pass in
      let bytes = rows_room_lem (r ∷ rs) in
      let a = scan_passed (canonical h (r ∷ rs)) (222 + (rows_room (r ∷ rs) + 3)) room u (r ∷ rs) p (omega arith) in
      let b = rows_passed (canonical h (r ∷ rs)) (222 + (rows_room (r ∷ rs) + 3)) room u (r ∷ rs) p in
      ap (λ x. contents_by x (rows_in (canonical h (r ∷ rs)))) (a ∙ ap (λ x. on_ok x u) (end_good (0 + length p.lines))) ∙ ap (λ l. Ok (record { header = h; rows = l })) b

pub files_read_back : FilesReadBack
files_read_back memory h [] g k fits = absurd k
files_read_back memory h (r ∷ rs) g k fits = file_back (min memory 8192) h r rs g k fits (omega arith)

pub files_are_short : FilesAreShort
files_are_short h [] g k = absurd k
files_are_short h (r ∷ rs) g k =
    let p = file_pass (length (r ∷ rs)) h r rs g k (omega arith) in
    let bytes = rows_room_lem (r ∷ rs) in
    omega (arith, p.fits)

pub canonical_files_are_files : CanonicalFilesAreFiles
canonical_files_are_files h rows g k few = ((opening_exact 8192 (canonical h rows) h rows).0 (files_read_back 8192 h rows g k (omega arith))).0

-- Reading is exact.
use Rattle.std.proofs.Common.{◌≡◌, ℕ, ◌+◌, ◌≤◌, min, Bool, true, false, cond, ltb, List, [], ◌∷◌, ◌++◌, length, Some, Ok, Err, Option, Result, sym, refl, ap, ◌∙◌, subst, arith}
use Rattle.std.proofs.lemmas.Bool.{leb-false, ltb-false}
use Rattle.refusal.specs.declared.Refusal.{Refusal}
use Rattle.refusal.specs.declared.Refusal.TheVariants.{TooLong, CellsDisagree, OutOfPlace}
use Rattle.model.specs.declared.Row.{Row}
use Rattle.model.specs.declared.header.Header.{Header}
use Rattle.cells.specs.Cells.{cells_by, extended_by, summary_if}
use Rattle.cells.specs.Cells as cells
use Rattle.cells.proofs.CellLaws.{cells_by_lem}
use Rattle.lines.specs.Texts.{text_of}
use Rattle.records.specs.declared.record.Record.TheVariants as rec
use Rattle.records.specs.declared.field.Value.{Value}
use Rattle.reading.specs.declared.scan.Scan.{Scan}
use Rattle.reading.specs.declared.stage.Stage.TheVariants as at
use Rattle.reading.specs.declared.stage.Part.{Part}
use Rattle.reading.specs.declared.stage.Part.TheVariants.{File}
use Rattle.records.specs.Builds.{origin_of, satellite_of}
use Rattle.reading.specs.Builds.{span_of}
use Rattle.reading.specs.Scans.{started}
use Rattle.reading.specs.Ends.{span_agrees, is_end, span_refusal_by, span_refusal, end_refusal_of, end_refusal}
use Rattle.reading.specs.Texts.{scan_from, scan_of}
use Rattle.reading.specs.Stores.{rows_on, rows_in}
use Rattle.reading.proofs.TextLaws.{short_text}
use Rattle.sheet.specs.Openings.{Contents, contents_by}
use Rattle.format.specs.Format.{Entry, entry, without_comments, maybe, AreRows, accuracy_if, offset_if, Ascend, FlagsStay, Stated, IsFile}
use Rattle.format.specs.Laws.{OpeningExact, ContentsUnique}
use Rattle.numbers.proofs.Taken.{by_bool}
use Rattle.format.proofs.TextLaws.{text_sound, text_complete}
use Rattle.format.proofs.StepLaws.{Scanned, rows_by, lines_sound, lines_complete, rows_complete}
use Rattle.format.proofs.RowLaws.{Source, file, state, RoomFor, file_room, chain_ascends, chain_flags, chain_room, chain_from, body_rows, bare_rows, trailer_rows, header_rows}
use Rattle.format.proofs.OrderLaws.{follows_part, Chained, head, order_sound}
use Rattle.format.proofs.OrderBack.{order_complete}

-- the rows that a file's entries make are those of its body
entry_rows : (h1 h2 : List Value) (h3 h5 : Option (List Value)) (es middle body : List Entry) (rows : List Row) → es ≡ entry rec.H1 h1 ∷ (middle ++ (entry rec.Trailer [] ∷ []))
    → without_comments middle ≡ entry rec.H2 h2 ∷ maybe rec.H3 h3 (maybe rec.H5 h5 (entry rec.H9 [] ∷ body)) → AreRows body rows → rows_by es [] ≡ rows
entry_rows h1 h2 h3 h5 es middle body rows ends order made =
    ap (λ l. rows_by l []) ends ∙ trailer_rows middle [] ∙ bare_rows middle [] ∙ ap (λ l. rows_by l []) order ∙ header_rows h2 h3 h5 body ∙ body_rows body rows made

-- what a chain says of its rows
pub chained_some : (k : Source) (rows : List Row) → Chained k rows → 1 ≤ length rows
chained_some k [] c = absurd c
chained_some k (r ∷ rs) c = omega arith

pub chained_ascend : (k : Source) (rows : List Row) → Chained k rows → Ascend rows
chained_ascend k [] c = absurd c
chained_ascend k (r ∷ rs) c = chain_ascends k (cells.started r) rs c.1

pub chained_flags : (k : Source) (rows : List Row) → Chained k rows → FlagsStay rows
chained_flags k [] c = absurd c
chained_flags k (r ∷ rs) c = chain_flags k (cells.started r) rs c.1

chained_room : (k : ℕ) (rows : List Row) → Chained (file k) rows → length rows ≤ k
chained_room k [] c = absurd c
chained_room k (r ∷ rs) c = let n = leb-false k 0 c.0 in let a = chain_room k (cells.started r) rs (omega arith) c.1 in omega arith

chained_stated : (k : Source) (vs : List Value) (rows : List Row) → Chained k rows → span_refusal_by (span_of vs) (summary_if rows) ≡ Ok tt → Stated vs rows
chained_stated k vs [] c q = absurd c
chained_stated k vs (r ∷ rs) c q = ap (span_agrees (span_of vs)) (sym (cells_by_lem r rs)) ∙ agreed (span_agrees (span_of vs) (cells_by (extended_by (cells.started r) rs))) q
  where
    agreed : (b : Bool) → ◌≡◌ {A = Result (Unit {0}) Refusal} (cond b (Ok tt) (Err CellsDisagree)) (Ok tt) → b ≡ true
    agreed true p = refl
    agreed false p = cc

pub chained : (k : Source) (rows : List Row) → 1 ≤ length rows → Ascend rows → FlagsStay rows → RoomFor k (length rows) → Chained k rows
chained k [] s a f n = absurd (omega arith)
chained k (r ∷ rs) s a f n = (n 0 (omega arith), chain_from k (cells.started r) rs a.0 a.1 f.0 f.1 (λ i q. n i (omega (arith, q))))

stated_some : (vs : List Value) (rows : List Row) → Stated vs rows → 1 ≤ length rows
stated_some vs [] s = absurd s
stated_some vs (r ∷ rs) s = omega arith

stated_ends : (vs : List Value) (rows : List Row) → Stated vs rows → span_refusal_by (span_of vs) (summary_if rows) ≡ Ok tt
stated_ends vs [] s = absurd s
stated_ends vs (r ∷ rs) s = let e : span_agrees (span_of vs) (cells_by (extended_by (cells.started r) rs)) ≡ true = ap (span_agrees (span_of vs)) (cells_by_lem r rs) ∙ s in rw e

-- a scan that ended well
ended_well : (u : Scan) (n : ℕ) → u.part ≡ File → end_refusal u n ≡ Ok tt → (is_end u.stage ≡ true) × (span_refusal u ≡ Ok tt)
ended_well u n p q = by_end (is_end u.stage) (ap (λ z. end_refusal_of z u n) (sym p) ∙ q)
  where
    by_end : (b : Bool) → cond b (span_refusal u) (Err (OutOfPlace (n + 1))) ≡ Ok tt → (b ≡ true) × (span_refusal u ≡ Ok tt)
    by_end true h = (refl, h)
    by_end false h = cc

pub scanned_part : (es : List Entry) (s u : Scan) → Scanned es s u → u.part ≡ s.part
scanned_part [] s u c = ap (λ z. z.part) (sym c)
scanned_part (e ∷ es) s u c = scanned_part es c.0 u c.2 ∙ follows_part s c.0 e c.1

-- a file with no more than k rows
abbrev Fits : ℕ → List ℕ → Header → List Row → Type 0
Fits k bs h rows = IsFile bs h rows × (length rows ≤ k)

lines_file : (k : ℕ) (bs : List ℕ) (u : Scan) → length bs ≤ 2097152 → scan_from 0 (text_of bs) (started File (Some k)) ≡ Ok u → Fits k bs u.header (rows_in bs)
lines_file k bs u short q =
    let l = lines_sound 0 (text_of bs).lines (text_of bs).ending (started File (Some k)) u q in
    let w = ended_well u l.last (scanned_part l.entries (started File (Some k)) u l.scanned) l.end in
    let o = order_sound l.entries k u w.0 l.scanned in
    let r = o.rows in
    let span = r.span in
    let summary = r.summary in
    let agrees : span_refusal_by (span_of o.h2) (summary_if r.rows) ≡ Ok tt = sym (λ i. span_refusal_by (span i) (summary i)) ∙ w.1 in
    let same : rows_in bs ≡ r.rows = l.rows [] ∙ entry_rows o.h1 o.h2 o.h3 o.h5 l.entries o.middle o.body r.rows o.ends o.order r.made in
    subst (λ rows. Fits k bs u.header rows) (sym same) (
      record {
        short = short;
        lines = (text_of bs).lines;
        text = text_sound bs l.ending;
        entries = l.entries;
        records = l.are;
        h1 = o.h1;
        h2 = o.h2;
        h3 = o.h3;
        h5 = o.h5;
        middle = o.middle;
        ends = o.ends;
        body = o.body;
        order = o.order;
        header = r.header;
        made = r.made;
        ascend = chained_ascend (file k) r.rows r.chain;
        flags = chained_flags (file k) r.rows r.chain;
        stated = chained_stated (file k) o.h2 r.rows r.chain agrees;
      },
      chained_room k r.rows r.chain,
    )

-- what is read is not too long
pub scan_short : (p : Part) (room : Option ℕ) (bs : List ℕ) (u : Scan) → scan_of p room bs ≡ Ok u → (length bs ≤ 2097152) × (scan_from 0 (text_of bs) (started p room) ≡ Ok u)
scan_short p room bs u q =
    by_bool (ltb 2097152 (length bs))
    (λ h. let e : ◌≡◌ {A = Result Scan Refusal} (Err (TooLong 0)) (Ok u) = rw h at q in cc)
    (λ h. (ltb-false 2097152 (length bs) h, rw h at q))

scan_sound : (k : ℕ) (bs : List ℕ) (u : Scan) → scan_of File (Some k) bs ≡ Ok u → Fits k bs u.header (rows_in bs)
scan_sound k bs u q = let e = scan_short File (Some k) bs u q in lines_file k bs u e.0 e.1

-- what a scan of a file leaves
record Left (k : ℕ) (bs : List ℕ) (h : Header) (rows : List Row) : Type 0 where
  pub scan : Scan
  pub is : scan_of File (Some k) bs ≡ Ok scan
  pub header : scan.header ≡ h
  pub rows_are : rows_in bs ≡ rows

scan_complete : (k : ℕ) (bs : List ℕ) (h : Header) (rows : List Row) → Fits k bs h rows → Left k bs h rows
scan_complete k bs h rows x =
    let f = x.0 in
    let s = started File (Some k) in
    let u = state (file k) at.End (head (origin_of f.h1) (satellite_of f.h2) (accuracy_if f.h3) (offset_if f.h5)) (span_of f.h2) (summary_if rows) in
    let text = text_complete bs f.lines f.text in
    let c = order_complete k f.h1 f.h2 f.h3 f.h5 f.middle f.body rows f.order f.made (chained (file k) rows (stated_some f.h2 rows f.stated) f.ascend f.flags (file_room k (length rows) x.1)) in
    let d : Scanned f.entries s u = subst (λ es. Scanned es s u) (sym f.ends) c in
    record {
      scan = u;
      is = sym (short_text File (Some k) bs s f.short refl) ∙ ap (λ t. scan_from 0 t s) text ∙ lines_complete 0 f.lines f.entries s u f.records d (λ n. stated_ends f.h2 rows f.stated);
      header = sym f.header;
      rows_are =
          ap (λ t. rows_on 0 t.lines []) text ∙ rows_complete 0 f.lines f.entries s u [] f.records d
          ∙ entry_rows f.h1 f.h2 f.h3 f.h5 f.entries f.middle f.body rows f.ends f.order f.made;
    }

opened_sound : (k : ℕ) (bs : List ℕ) (h : Header) (rows : List Row) (r : Result Scan Refusal) → scan_of File (Some k) bs ≡ r → contents_by r (rows_in bs) ≡ Ok (record { header = h; rows = rows }) → Fits k bs h rows
opened_sound k bs h rows (Err e) p q = cc
opened_sound k bs h rows (Ok u) p q =
    let e : ◌≡◌ {A = Contents} (record { header = u.header; rows = rows_in bs }) (record { header = h; rows = rows }) = cc in
    subst (λ c. Fits k bs c.header c.rows) e (scan_sound k bs u p)

opened_complete : (k : ℕ) (bs : List ℕ) (h : Header) (rows : List Row) → Fits k bs h rows → contents_by (scan_of File (Some k) bs) (rows_in bs) ≡ Ok (record { header = h; rows = rows })
opened_complete k bs h rows x =
    let l = scan_complete k bs h rows x in
    let head = l.header in
    let are = l.rows_are in
    ap (λ r. contents_by r (rows_in bs)) l.is ∙ (λ i. Ok (record { header = head i; rows = are i }))

pub opening_exact : OpeningExact
opening_exact memory bs h rows = (opened_sound (min memory 8192) bs h rows (scan_of File (Some (min memory 8192)) bs) refl, opened_complete (min memory 8192) bs h rows)

pub contents_unique : ContentsUnique
contents_unique bs h g rows others x y =
    let k = length rows + length others in
    let a = scan_complete k bs h rows (x, omega arith) in
    let b = scan_complete k bs g others (y, omega arith) in
    let e = sym a.is ∙ b.is in
    let same : a.scan ≡ b.scan = cc in
    (sym a.header ∙ ap (λ z. z.header) same ∙ b.header, sym a.rows_are ∙ b.rows_are)

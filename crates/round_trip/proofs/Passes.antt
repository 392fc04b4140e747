-- How a reader passes the text of records.
use Rattle.std.proofs.Common.{◌≡◌, ℕ, ◌+◌, ◌≤◌, true, false, cond, List, [], ◌∷◌, ◌++◌, length, drop, Some, Ok, sym, refl, ap, ◌∙◌, append_assoc, append-nil, add-zero, arith, None, Option}
use Rattle.std.specs.List.{AllByRecursion}
use Rattle.std.proofs.ByRecursion.{All-append}
use Rattle.std.proofs.lemmas.List.{length-append}
use Rattle.lines.specs.Texts.{Ending}
use Rattle.model.specs.declared.Row.{Row}
use Rattle.records.specs.declared.field.Field.{Field}
use Rattle.records.specs.declared.field.Value.{Value}
use Rattle.records.specs.declared.record.Record.{Record}
use Rattle.records.specs.declared.record.Record.TheVariants as rec
use Rattle.records.specs.Types.{is_comment}
use Rattle.records.specs.Reads.{count_fits, read_record}
use Rattle.records.specs.Tables.{fields_of}
use Rattle.reading.specs.declared.scan.Scan.{Scan}
use Rattle.reading.specs.declared.stage.Stage.{Stage}
use Rattle.reading.specs.declared.part.RowPart.{RowPart}
use Rattle.reading.specs.declared.part.RowPart.TheVariants as parts
use Rattle.reading.specs.Order.{next_stage}
use Rattle.records.specs.Builds.{velocity_of}
use Rattle.reading.specs.Builds.{row_of}
use Rattle.reading.specs.Scans.{taken, taken_if, at_stage, with_stage, by_stage, by_record, line_step}
use Rattle.reading.specs.Texts.{on_scan, scan_lines}
use Rattle.reading.specs.Stores.{with_part, position_part, velocity_part, part_by_record, part_by_type, rows_with, rows_on}
use Rattle.writing.specs.Texts.{record_text}
use Rattle.round_trip.specs.Lines.{IsLine, lines_text}
use Rattle.round_trip.specs.Goods.{GoodOn, GoodValues}
use Rattle.round_trip.specs.Records.{line_text}
use Rattle.round_trip.proofs.Rooms.{longest}
use Rattle.round_trip.proofs.RecordLaws.{line_le, records_read_back}

-- a text of lines, of at most k bytes, after which a scan s with its rows has come to u with the rows last
pub record Passes (text : List ℕ) (k : ℕ) (s : Scan) (rows : List Row) (u : Scan) (last : List Row) : Type 0 where
  pub lines : List (List ℕ)
  pub is : text ≡ lines_text lines
  pub good : AllByRecursion IsLine lines
  pub fits : length text ≤ k
  pub scans : (n : ℕ) (more : List (List ℕ)) (e : Ending) → scan_lines n (lines ++ more) e s ≡ scan_lines (n + length lines) more e u
  pub stores : (n : ℕ) (more : List (List ℕ)) → rows_on n (lines ++ more) rows ≡ rows_on (n + length lines) more last

-- a record without values
pub none_good : (t : Record) → count_fits t 0 ≡ true → GoodValues t []
none_good t h = record { count = h; each = none_on (fields_of t) }
  where
    none_on : (fs : List Field) → GoodOn fs [] []
    none_on [] = tt
    none_on (f ∷ fs) = tt

-- no text
pub passes_none : (k : ℕ) (s : Scan) (rows : List Row) → Passes [] k s rows s rows
passes_none k s rows =
    record {
      lines = [];
      is = refl;
      good = tt;
      fits = omega arith;
      scans = λ n more e. ap (λ m. scan_lines m more e s) (sym (add-zero n));
      stores = λ n more. ap (λ m. rows_on m more rows) (sym (add-zero n));
    }

lines_append : (a b : List (List ℕ)) → lines_text (a ++ b) ≡ lines_text a ++ lines_text b
lines_append [] b = refl
lines_append (l ∷ a) b = ap (λ t. (l ++ (10 ∷ [])) ++ t) (lines_append a b) ∙ sym (append_assoc (l ++ (10 ∷ [])) (lines_text a) (lines_text b))

-- one text after another
module _ (a b : List ℕ) (i j : ℕ) (s : Scan) (rows : List Row) (t : Scan) (mid : List Row) (u : Scan) (last : List Row) (p : Passes a i s rows t mid) (q : Passes b j t mid u last) where
  count_both : (n : ℕ) → n + length p.lines + length q.lines ≡ n + length (p.lines ++ q.lines)
  count_both n = omega (arith, length-append p.lines q.lines)

  pub passes_both : Passes (a ++ b) (i + j) s rows u last
  passes_both =
      record {
        lines = p.lines ++ q.lines;
        is = ap (λ x. x ++ b) p.is ∙ ap (λ x. lines_text p.lines ++ x) q.is ∙ sym (lines_append p.lines q.lines);
        good = All-append IsLine p.lines q.lines p.good q.good;
        fits = omega (arith, length-append a b, p.fits, q.fits);
        scans = λ n more e.
            ap (λ l. scan_lines n l e s) (append_assoc p.lines q.lines more) ∙ p.scans n (q.lines ++ more) e
            ∙ q.scans (n + length p.lines) more e ∙ ap (λ m. scan_lines m more e u) (count_both n);
        stores = λ n more.
            ap (λ l. rows_on n l rows) (append_assoc p.lines q.lines more) ∙ p.stores n (q.lines ++ more)
            ∙ q.stores (n + length p.lines) more ∙ ap (λ m. rows_on m more last) (count_both n);
      }

-- what a record says of the rows
abbrev pub part_in : Record → List Value → Option RowPart
part_in rec.H1 vs = None
part_in rec.H2 vs = None
part_in rec.H3 vs = None
part_in rec.H5 vs = None
part_in rec.H9 vs = None
part_in rec.Position vs = Some (parts.Position (row_of vs))
part_in rec.Velocity vs = Some (parts.Velocity (velocity_of vs))
part_in rec.Comment vs = None
part_in rec.Trailer vs = None

pub part_is : (n : ℕ) (rest : List ℕ) (t : Record) (vs : List Value) → read_record n t rest ≡ Ok vs → part_by_record n rest t ≡ part_in t vs
part_is n rest rec.H1 vs e = refl
part_is n rest rec.H2 vs e = refl
part_is n rest rec.H3 vs e = refl
part_is n rest rec.H5 vs e = refl
part_is n rest rec.H9 vs e = refl
part_is n rest rec.Position vs e = ap position_part e
part_is n rest rec.Velocity vs e = ap velocity_part e
part_is n rest rec.Comment vs e = refl
part_is n rest rec.Trailer vs e = refl

-- the line of a record whose values are good, and which stands in its place
module _ (t : Record) (vs : List Value) (g : GoodValues t vs) where
  rows_line : (n : ℕ) (rows : List Row) → rows_with n rows (line_text t vs) ≡ with_part rows (part_in t vs)
  rows_line n rows =
      let b = records_read_back t vs g in
      ap (λ o. with_part rows (part_by_type n (line_text t vs) o)) b.type ∙ ap (with_part rows) (part_is n (drop 2 (line_text t vs)) t vs (b.values n))

  scan_line : (n : ℕ) (s : Scan) (st : Stage) → is_comment t ≡ false → next_stage s.part s.stage t ≡ Some st → line_step n (line_text t vs) s ≡ at_stage st (taken n s t vs)
  scan_line n s st c place =
      let b = records_read_back t vs g in
      let text = line_text t vs in
      ap (by_record n text s) b.type ∙ ap (by_stage n text s t) place
      ∙ ap (λ x. at_stage st (cond x (Ok s) (taken_if n s t (read_record n t (drop 2 text))))) c
      ∙ ap (λ r. at_stage st (taken_if n s t r)) (b.values n)

  pub passes_record : (s u : Scan) (st : Stage) (rows last : List Row) → is_comment t ≡ false → next_stage s.part s.stage t ≡ Some st → ((n : ℕ) → taken n s t vs ≡ Ok u) → with_part rows (part_in t vs) ≡ last → Passes (record_text t vs) (longest t + 1) s rows (with_stage st u) last
  passes_record s u st rows last c place takes store =
      let b = records_read_back t vs g in
      let text = line_text t vs in
      record {
        lines = text ∷ [];
        is = b.text ∙ sym (append-nil (text ++ (10 ∷ [])));
        good = (b.line, tt);
        fits = omega (arith, ap length b.text, length-append text (10 ∷ []), line_le t vs g);
        scans = λ n more e. ap (λ r. on_scan r (λ x. scan_lines (n + 1) more e x)) (scan_line (n + 1) s st c place ∙ ap (at_stage st) (takes (n + 1)));
        stores = λ n more. ap (rows_on (n + 1) more) (rows_line (n + 1) rows ∙ store);
      }

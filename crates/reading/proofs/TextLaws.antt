use Rattle.std.proofs.Common.{◌≡◌, ℕ, ◌+◌, ◌≤◌, List, length, drop, Some, None, Ok, Err, Option, sym, ap, ◌∙◌, arith, Bor}
use Rattle.std.proofs.lemmas.List.{drop-drop}
use Rattle.refusal.specs.declared.Refusal.{Refusal}
use Rattle.model.specs.declared.Row.{Row}
use Rattle.cells.specs.declared.summary.Summary.{Summary}
use Rattle.cells.specs.Cells.{count_in, summary_with}
use Rattle.std.proofs.lemmas.Bool.{le-ltb}
use Rattle.lines.specs.Lines.{next_line, lists, lines_taken, bytes_taken}
use Rattle.lines.specs.Texts.{text_of}
use Rattle.lines.proofs.TextLaws.{some_line, no_line, bad_line}
use Rattle.reading.specs.declared.scan.Scan.{Scan}
use Rattle.reading.specs.declared.stage.Part.{Part}
use Rattle.reading.specs.declared.part.RowPart.{RowPart}
use Rattle.reading.specs.Stores.{part_of}
use Rattle.reading.proofs.TrackLaws.{Step, same, added, line_step_lem}
use Rattle.reading.specs.Scans.{started, row_count, on_ok, line_step}
use Rattle.reading.specs.Ends.{end_refusal}
use Rattle.reading.specs.Texts.{scan_end_by, on_scan, scan_from, scan_of}

count_with : (m : Option Summary) (r : Row) → count_in (Some (summary_with m r)) ≤ count_in m + 1
count_with None r = omega arith
count_with (Some m) r = omega arith

count_by : (n : ℕ) (p : Option RowPart) (s u : Scan) → Step n p s u → row_count u ≤ row_count s + 1
count_by n p s u (same e f g) = let h = ap count_in e in omega arith
count_by n p s u (added r e f g k) = let h = ap count_in g in let q = count_with s.summary r in omega arith

-- a line adds at most one row
pub count_step : (line : ℕ) (text : List ℕ) (s u : Scan) → line_step line text s ≡ Ok u → row_count u ≤ row_count s + 1
count_step line text s u p = count_by line (part_of line text) s u (line_step_lem line text s u p)

-- the text xs is read up to at, and has n lines there
module _ (xs : List ℕ) (n at : ℕ) (s : Scan) where
  go_on : (l : List ℕ) → next_line (n + 1) (drop at xs) ≡ Ok (Some l) → scan_from n (text_of (drop at xs)) s ≡ on_scan (line_step (n + 1) l s) (λ t. scan_from (n + 1) (text_of (drop (at + (length l + 1)) xs)) t)
  go_on l p =
      ap (λ t. scan_from n t s) (some_line (n + 1) (drop at xs) l p)
      ∙ ap (λ b. on_scan (line_step (n + 1) l s) (λ t. scan_from (n + 1) (text_of b) t)) (drop-drop (length l + 1) at xs)

  pub one_line : (l : List ℕ) (u : Scan) → next_line (n + 1) (drop at xs) ≡ Ok (Some l) → line_step (n + 1) l s ≡ Ok u → scan_from n (text_of (drop at xs)) s ≡ scan_from (n + 1) (text_of (drop (at + (length l + 1)) xs)) u
  one_line l u p q = go_on l p ∙ ap (λ r. on_scan r (λ t. scan_from (n + 1) (text_of (drop (at + (length l + 1)) xs)) t)) q

  pub bad_step : (l : List ℕ) (e : Refusal) → next_line (n + 1) (drop at xs) ≡ Ok (Some l) → line_step (n + 1) l s ≡ Err e → scan_from n (text_of (drop at xs)) s ≡ Err e
  bad_step l e p q = go_on l p ∙ ap (λ r. on_scan r (λ t. scan_from (n + 1) (text_of (drop (at + (length l + 1)) xs)) t)) q

  pub at_last : next_line (n + 1) (drop at xs) ≡ Ok None → scan_from n (text_of (drop at xs)) s ≡ on_ok (end_refusal s n) s
  at_last p = ap (λ t. scan_from n t s) (no_line (n + 1) (drop at xs) p)

  pub no_text : (e : Refusal) → next_line (n + 1) (drop at xs) ≡ Err e → scan_from n (text_of (drop at xs)) s ≡ Err e
  no_text e p = let b = bad_line (n + 1) (drop at xs) e p in ap (λ t. scan_from n t s) b.here ∙ ap (scan_end_by s n) b.refusal

-- what the reader of lines says, with its references in place of the bytes
module _ (file xs : List ℕ) (n at : ℕ) (o : Option (Bor (List ℕ))) (is_text : file ≡ xs) (gives : lists (Ok o) ≡ next_line (n + 1) (drop at file)) where
  gives_here : lists (Ok o) ≡ next_line (n + 1) (drop at xs)
  gives_here = gives ∙ ap (λ f. next_line (n + 1) (drop at f)) is_text

  pub some_told : (l : Bor (List ℕ)) → o ≡ Some l → next_line (n + 1) (drop at xs) ≡ Ok (Some l.now)
  some_told l e = sym gives_here ∙ ap (λ q. lists (Ok q)) e

  pub none_told : o ≡ None → next_line (n + 1) (drop at xs) ≡ Ok None
  none_told e = sym gives_here ∙ ap (λ q. lists (Ok q)) e

pub line_taken : (m n : ℕ) (o : Option (Bor (List ℕ))) (l : Bor (List ℕ)) → m ≡ n + lines_taken (lists (Ok o)) → o ≡ Some l → m ≡ n + 1
line_taken m n o l e s = e ∙ ap (λ q. n + lines_taken (lists (Ok q))) s

pub bytes_taken_lem : (m n : ℕ) (o : Option (Bor (List ℕ))) (l : Bor (List ℕ)) → m ≡ n + bytes_taken (lists (Ok o)) → o ≡ Some l → m ≡ n + (length l.now + 1)
bytes_taken_lem m n o l e s = e ∙ ap (λ q. n + bytes_taken (lists (Ok q))) s

pub none_taken : (m n : ℕ) (o : Option (Bor (List ℕ))) → m ≡ n + lines_taken (lists (Ok o)) → o ≡ None → m ≡ n
none_taken m n o e s = e ∙ ap (λ q. n + lines_taken (lists (Ok q))) s ∙ omega arith

pub short_text : (p : Part) (room : Option ℕ) (bs : List ℕ) (s : Scan) → length bs ≤ 2097152 → s ≡ started p room → scan_from 0 (text_of bs) s ≡ scan_of p room bs
short_text p room bs s h e = rw (le-ltb 2097152 (length bs) h) (ap (scan_from 0 (text_of bs)) e)

use Rattle.std.proofs.Common.{◌≡◌, ℕ, ◌+◌, ◌<◌, ◌≤◌, Bool, true, false, cond, ltb, leb, List, [], ◌∷◌, ◌++◌, length, drop, Some, None, Ok, Err, Option, Result, sym, refl, ap, ◌∙◌, subst, arith}
use Rattle.std.proofs.lemmas.List.{length-append}
use Rattle.std.proofs.lemmas.Bool.{leb-false}
use Rattle.refusal.specs.declared.Refusal.{Refusal}
use Rattle.refusal.specs.declared.Refusal.TheVariants.{TooManyRows, NotAfter, FlagChanges, TooLong}
use Rattle.calendar.specs.Instants.{moment}
use Rattle.model.specs.declared.Row.{Row}
use Rattle.model.specs.declared.Vector.{Vector}
use Rattle.model.specs.Flags.{allows}
use Rattle.cells.specs.declared.summary.Summary.{Summary}
use Rattle.cells.specs.Cells.{summary_if, summary_with, count_in, extended_by, extended}
use Rattle.cells.specs.Cells as cells
use Rattle.cells.proofs.CellLaws.{summary_push, count_summary}
use Rattle.lines.specs.Texts.{Ending, text_of, ending_refusal}
use Rattle.records.specs.declared.record.Record.{Record}
use Rattle.records.specs.declared.record.Record.TheVariants as rec
use Rattle.records.specs.declared.field.Value.{Value}
use Rattle.records.specs.Types.{is_comment, record_of}
use Rattle.records.specs.Reads.{read_record}
use Rattle.reading.specs.declared.scan.Scan.{Scan}
use Rattle.reading.specs.declared.stage.Stage.{Stage}
use Rattle.reading.specs.declared.stage.Part.{Part}
use Rattle.reading.specs.declared.part.RowPart.{RowPart}
use Rattle.reading.specs.declared.part.RowPart.TheVariants as parts
use Rattle.reading.specs.Order.{next_stage}
use Rattle.reading.specs.Builds.{row_of}
use Rattle.reading.specs.Scans.{started, row_count, is_full_at, room_refusal, row_refusal_after, row_refusal, with_row, on_ok, taken, taken_if, at_stage, with_stage, content_step, by_stage, by_record, line_step}
use Rattle.reading.specs.Ends.{end_refusal}
use Rattle.reading.specs.Texts.{scan_end_by, on_scan, scan_lines, scan_from, scan_of}
use Rattle.reading.specs.Stores.{completed, with_part, position_part, velocity_part, part_by_record, part_by_type, part_of, rows_with, rows_on, rows_in}

-- a velocity changes nothing that a summary tells
on_completed : (s : Summary) (rs : List Row) (v : Vector) → extended_by s (completed rs v) ≡ extended_by s rs
on_completed s [] v = refl
on_completed s (r ∷ []) v = refl
on_completed s (r ∷ (x ∷ rs)) v = on_completed (extended s r) (x ∷ rs) v

pub summary_completed : (rs : List Row) (v : Vector) → summary_if (completed rs v) ≡ summary_if rs
summary_completed [] v = refl
summary_completed (r ∷ []) v = refl
summary_completed (r ∷ (x ∷ rs)) v = ap (λ m. Some m) (on_completed (cells.started r) (x ∷ rs) v)

-- what an accepted line does to the rows and to their summary
pub data Step (n : ℕ) (p : Option RowPart) (s u : Scan) : Type 0 where
  same : u.summary ≡ s.summary → u.room ≡ s.room → ((rows : List Row) → summary_if (with_part rows p) ≡ summary_if rows) → Step n p s u
  added : (r : Row) → p ≡ Some (parts.Position r) → row_refusal n s r ≡ Ok tt → u.summary ≡ Some (summary_with s.summary r) → u.room ≡ s.room → Step n p s u

-- the same scan but for its header
kept : (n : ℕ) (p : Option RowPart) (s v u : Scan) → v.summary ≡ s.summary → v.room ≡ s.room → ((rows : List Row) → summary_if (with_part rows p) ≡ summary_if rows)
    → ◌≡◌ {A = Result Scan Refusal} (Ok v) (Ok u) → Step n p s u
kept n p s v u e f g q = let w : v ≡ u = cc in same (ap (λ x. x.summary) (sym w) ∙ e) (ap (λ x. x.room) (sym w) ∙ f) g

quiet : (rows : List Row) → summary_if (with_part rows None) ≡ summary_if rows
quiet rows = refl

row_step : (n : ℕ) (p : Option RowPart) (s u : Scan) (r : Row) (a : Result (Unit {0}) Refusal) → a ≡ row_refusal n s r → p ≡ Some (parts.Position r) → on_ok a (with_row s r) ≡ Ok u → Step n p s u
row_step n p s u r (Ok x) e f q = let w : with_row s r ≡ u = cc in added r f (sym e) (ap (λ x. x.summary) (sym w)) (ap (λ x. x.room) (sym w))
row_step n p s u r (Err x) e f q = cc

taken_step : (n : ℕ) (rest : List ℕ) (s u : Scan) (t : Record) (vs : List Value) → Ok vs ≡ read_record n t rest → taken n s t vs ≡ Ok u → Step n (part_by_record n rest t) s u
taken_step n rest s u rec.H1 vs e q = kept n _ s _ u refl refl quiet q
taken_step n rest s u rec.H2 vs e q = kept n _ s _ u refl refl quiet q
taken_step n rest s u rec.H3 vs e q = kept n _ s _ u refl refl quiet q
taken_step n rest s u rec.H5 vs e q = kept n _ s _ u refl refl quiet q
taken_step n rest s u rec.H9 vs e q = kept n _ s s u refl refl quiet q
taken_step n rest s u rec.Position vs e q = row_step n _ s u (row_of vs) (row_refusal n s (row_of vs)) refl (ap position_part (sym e)) q
taken_step n rest s u rec.Velocity vs e q =
    kept n _ s s u refl refl (λ rows. ap (λ r. summary_if (with_part rows (velocity_part r))) (sym e) ∙ summary_completed rows _) q
taken_step n rest s u rec.Comment vs e q = kept n _ s s u refl refl quiet q
taken_step n rest s u rec.Trailer vs e q = kept n _ s s u refl refl quiet q

if_step : (n : ℕ) (rest : List ℕ) (s u : Scan) (t : Record) (r : Result (List Value) Refusal) → r ≡ read_record n t rest → taken_if n s t r ≡ Ok u → Step n (part_by_record n rest t) s u
if_step n rest s u t (Ok vs) e q = taken_step n rest s u t vs e q
if_step n rest s u t (Err x) e q = cc

comment_part : (n : ℕ) (rest : List ℕ) (t : Record) → is_comment t ≡ true → part_by_record n rest t ≡ None
comment_part n rest rec.H1 e = cc
comment_part n rest rec.H2 e = cc
comment_part n rest rec.H3 e = cc
comment_part n rest rec.H5 e = cc
comment_part n rest rec.H9 e = cc
comment_part n rest rec.Position e = cc
comment_part n rest rec.Velocity e = cc
comment_part n rest rec.Comment e = refl
comment_part n rest rec.Trailer e = cc

content_step_lem : (n : ℕ) (rest : List ℕ) (s u : Scan) (t : Record) (b : Bool) → b ≡ is_comment t → cond b (Ok s) (taken_if n s t (read_record n t rest)) ≡ Ok u → Step n (part_by_record n rest t) s u
content_step_lem n rest s u t true e q = kept n _ s s u refl refl (λ rows. ap (λ p. summary_if (with_part rows p)) (comment_part n rest t (sym e))) q
content_step_lem n rest s u t false e q = if_step n rest s u t (read_record n t rest) refl q

moved_step : (n : ℕ) (p : Option RowPart) (s v : Scan) (st : Stage) → Step n p s v → Step n p s (with_stage st v)
moved_step n p s v st (same e f g) = same e f g
moved_step n p s v st (added r e f g h) = added r e f g h

at_step : (n : ℕ) (p : Option RowPart) (s u : Scan) (st : Stage) (r : Result Scan Refusal) → ((v : Scan) → r ≡ Ok v → Step n p s v) → at_stage st r ≡ Ok u → Step n p s u
at_step n p s u st (Err x) h q = cc
at_step n p s u st (Ok v) h q = let w : with_stage st v ≡ u = cc in elim (moved_step n p s v st (h v refl)) [
  | same e f g ↦ same (ap (λ x. x.summary) (sym w) ∙ e) (ap (λ x. x.room) (sym w) ∙ f) g
  | added r e f g k ↦ added r e f (ap (λ x. x.summary) (sym w) ∙ g) (ap (λ x. x.room) (sym w) ∙ k)
]

place_step : (n : ℕ) (text : List ℕ) (s u : Scan) (t : Record) (o : Option Stage) → by_stage n text s t o ≡ Ok u → Step n (part_by_record n (drop 2 text) t) s u
place_step n text s u t None q = cc
place_step n text s u t (Some st) q = at_step n _ s u st (content_step n s t (drop 2 text)) (λ v e. content_step_lem n (drop 2 text) s v t (is_comment t) refl e) q

record_step : (n : ℕ) (text : List ℕ) (s u : Scan) (o : Option Record) → by_record n text s o ≡ Ok u → Step n (part_by_type n text o) s u
record_step n text s u None q = cc
record_step n text s u (Some t) q = place_step n text s u t (next_stage s.part s.stage t) q

pub line_step_lem : (n : ℕ) (text : List ℕ) (s u : Scan) → line_step n text s ≡ Ok u → Step n (part_of n text) s u
line_step_lem n text s u q = record_step n text s u (record_of text) q

-- the scan tells of the rows what their summary tells, and they fit its room
pub record Tracks (s : Scan) (rows : List Row) (given : Option ℕ) : Type 0 where
  pub summary : s.summary ≡ summary_if rows
  pub room : s.room ≡ given
  pub fits : (room : ℕ) → given ≡ Some room → length rows ≤ room

unit_ok : (a : Result (Unit {0}) Refusal) (b : Bool) (e : Refusal) → cond b (Err e) a ≡ Ok tt → b ≡ false
unit_ok a true e q = cc
unit_ok a false e q = refl

after_ok : (n : ℕ) (s : Scan) (r : Row) (m : Option Summary) → row_refusal_after n s r m ≡ Ok tt → room_refusal n s ≡ Ok tt
after_ok n s r None q = q
after_ok n s r (Some before) q =
    let b = leb (moment r.at) (moment before.last) in
    let inner : Result (Unit {0}) Refusal = cond (allows before.flag r.flag) (room_refusal n s) (Err (FlagChanges n)) in
    let f = unit_ok inner b (NotAfter n) q in
    let g : inner ≡ Ok tt = rw f at q in
    allowed (allows before.flag r.flag) g
  where
    allowed : (c : Bool) → cond c (room_refusal n s) (Err (FlagChanges n)) ≡ Ok tt → room_refusal n s ≡ Ok tt
    allowed true h = h
    allowed false h = cc

not_full : (room k : ℕ) → is_full_at (Some room) k ≡ false → k < room
not_full room k e = leb-false room k e

fits_more : (n : ℕ) (s : Scan) (rows : List Row) (r : Row) (given : Option ℕ) → Tracks s rows given → row_refusal n s r ≡ Ok tt → (room : ℕ) → given ≡ Some room → length (rows ++ (r ∷ [])) ≤ room
fits_more n s rows r given t q room e =
    let full = unit_ok (Ok tt) (is_full_at s.room (row_count s)) (TooManyRows n) (after_ok n s r s.summary q) in
    let lt = not_full room (row_count s) (ap (λ o. is_full_at o (row_count s)) (sym (t.room ∙ e)) ∙ full) in
    let c : row_count s ≡ length rows = ap count_in t.summary ∙ count_summary rows in
    let l = length-append rows (r ∷ []) in
    omega arith

tracks_part : (n : ℕ) (p : Option RowPart) (s u : Scan) (rows : List Row) (given : Option ℕ) → Tracks s rows given → Step n p s u → ((k : ℕ) → length rows ≤ k → summary_if (with_part rows p) ≡ summary_if rows → length (with_part rows p) ≤ k) → Tracks u (with_part rows p) given
tracks_part n p s u rows given t (same e f g) h =
    record { summary = e ∙ t.summary ∙ sym (g rows); room = f ∙ t.room; fits = λ room q. h room (t.fits room q) (g rows) }
tracks_part n p s u rows given t (added r e f g k) h =
    record {
      summary = g ∙ ap (λ m. Some (summary_with m r)) t.summary ∙ sym (summary_push rows r) ∙ ap (λ z. summary_if (with_part rows z)) (sym e);
      room = k ∙ t.room;
      fits = λ room q. let a = fits_more n s rows r given t f room q in let b = ap (λ z. length (with_part rows z)) e in omega arith;
    }

-- rows with the same summary are as many
same_length : (rows more : List Row) (k : ℕ) → length rows ≤ k → summary_if more ≡ summary_if rows → length more ≤ k
same_length rows more k h e = let a = sym (count_summary more) ∙ ap count_in e ∙ count_summary rows in omega arith

pub tracks_line : (n : ℕ) (text : List ℕ) (s u : Scan) (rows : List Row) (given : Option ℕ) → Tracks s rows given → line_step n text s ≡ Ok u → Tracks u (rows_with n rows text) given
tracks_line n text s u rows given t q = tracks_part n (part_of n text) s u rows given t (line_step_lem n text s u q) (λ k h e. same_length rows (with_part rows (part_of n text)) k h e)

tracks_end : (s u : Scan) (n : ℕ) (o : Option Refusal) (rows : List Row) (given : Option ℕ) → Tracks s rows given → scan_end_by s n o ≡ Ok u → Tracks u rows given
tracks_end s u n (Some e) rows given t q = cc
tracks_end s u n None rows given t q = by_end (end_refusal s n) q
  where
    by_end : (a : Result (Unit {0}) Refusal) → on_ok a s ≡ Ok u → Tracks u rows given
    by_end (Err e) p = cc
    by_end (Ok x) p = let w : s ≡ u = cc in subst (λ v. Tracks v rows given) w t

tracks_on : (n : ℕ) (l : List ℕ) (ls : List (List ℕ)) (e : Ending) (rows : List Row) (given : Option ℕ) (u : Scan) (r : Result Scan Refusal) → ((v : Scan) → r ≡ Ok v → scan_lines (n + 1) ls e v ≡ Ok u → Tracks u (rows_on n (l ∷ ls) rows) given) → on_scan r (λ t. scan_lines (n + 1) ls e t) ≡ Ok u → Tracks u (rows_on n (l ∷ ls) rows) given
tracks_on n l ls e rows given u (Ok v) h q = h v refl q
tracks_on n l ls e rows given u (Err x) h q = cc

pub tracks_lines : (n : ℕ) (ls : List (List ℕ)) (e : Ending) (s u : Scan) (rows : List Row) (given : Option ℕ) → Tracks s rows given → scan_lines n ls e s ≡ Ok u → Tracks u (rows_on n ls rows) given
tracks_lines n [] e s u rows given t q = tracks_end s u n (ending_refusal (n + 1) e) rows given t q
tracks_lines n (l ∷ ls) e s u rows given t q = tracks_on n l ls e rows given u (line_step (n + 1) l s) (λ v p r. tracks_lines (n + 1) ls e v u (rows_with (n + 1) rows l) given (tracks_line (n + 1) l s v rows given t p) r) q

-- an accepted text: the scan tells of its rows
pub tracks_text : (p : Part) (room : Option ℕ) (bs : List ℕ) (u : Scan) → scan_of p room bs ≡ Ok u → Tracks u (rows_in bs) room
tracks_text p room bs u q = long (ltb 2097152 (length bs)) q
  where
    begun : Tracks (started p room) [] room
    begun = record { summary = refl; room = refl; fits = λ k e. omega arith }

    long : (b : Bool) → cond b (Err (TooLong 0)) (scan_from 0 (text_of bs) (started p room)) ≡ Ok u → Tracks u (rows_in bs) room
    long true h = cc
    long false h = tracks_lines 0 (text_of bs).lines (text_of bs).ending (started p room) u [] room begun h

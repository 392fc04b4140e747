-- What is held goes on from line to line, to the end of a file or a block.
use Rattle.std.proofs.Common.{◌≡◌, ℕ, ◌+◌, Bool, true, false, cond, ltb, leb, List, [], ◌∷◌, ◌++◌, length, drop, Some, None, Ok, Err, Option, Result, sym, refl, ap, ◌∙◌, subst}
use Rattle.std.specs.List.{AllByRecursion}
use Rattle.std.proofs.lemmas.Bool.{leb-false}
use Rattle.refusal.specs.declared.Refusal.{Refusal}
use Rattle.refusal.specs.declared.Refusal.TheVariants.{NotAfter, FlagChanges, OutOfPlace, TooLong}
use Rattle.calendar.specs.Instants.{moment}
use Rattle.cells.specs.declared.summary.Summary.{Summary}
use Rattle.lines.specs.Texts.{Ending, text_of, ending_refusal}
use Rattle.model.specs.declared.Row.{Row}
use Rattle.model.specs.Flags.{allows}
use Rattle.records.specs.declared.field.Value.{Value}
use Rattle.records.specs.declared.record.Record.{Record}
use Rattle.records.specs.declared.record.Record.TheVariants as rec
use Rattle.records.specs.Types.{is_comment, record_of}
use Rattle.records.specs.Reads.{read_record}
use Rattle.reading.specs.declared.scan.Scan.{Scan}
use Rattle.reading.specs.declared.stage.Stage.{Stage}
use Rattle.reading.specs.declared.stage.Part.{Part}
use Rattle.reading.specs.declared.stage.Part.TheVariants as part
use Rattle.records.specs.Builds.{origin_of, satellite_of, accuracy_of, offset_of, velocity_of}
use Rattle.reading.specs.Builds.{span_of, row_of}
use Rattle.reading.specs.Ends.{is_end, span_refusal, end_refusal_of, end_refusal}
use Rattle.reading.specs.Order.{after_h1, after_h2, after_h3, after_h5, after_h9, after_position, after_velocity, after_comment, after_trailer, rows_done, next_stage}
use Rattle.reading.specs.Scans.{started, room_refusal, row_refusal_after, row_refusal, with_row, with_header, with_stage, on_ok, taken, taken_if, at_stage, content_step, by_stage, by_record, line_step}
use Rattle.reading.specs.Texts.{scan_end_by, on_scan, scan_lines, scan_from, scan_of}
use Rattle.reading.specs.Stores.{completed, with_part, part_by_record, part_by_type, rows_with, rows_on, rows_in}
use Rattle.round_trip.specs.Lines.{IsLine}
use Rattle.round_trip.specs.Goods.{GoodValues}
use Rattle.round_trip.specs.Contents.{GoodHeader, GoodRows}
use Rattle.round_trip.specs.Blocks.{BlocksAreGood}
use Rattle.round_trip.proofs.Passes.{part_in, part_is}
use Rattle.round_trip.proofs.ReadLaws.{read_good, text_lines}
use Rattle.round_trip.proofs.BuiltLaws.{built_origin, built_satellite, built_accuracy, built_offset, built_position, built_velocity}
use Rattle.round_trip.proofs.Held.{GoodHeaderOf, Held, HeldIf, Ordered, with_origin, with_satellite, with_accuracy, with_offset, after_origin_lem, after_satellite, after_accuracy, after_offset, after_header, after_position_lem, after_velocity_lem, after_comment_lem, after_trailer_lem, ends_at, at_end}

-- the scan has gone on to v, of the same part, and what is held is held at the next stage, if there is one
abbrev Goes : Part → Option Stage → List Row → Scan → Type 0
Goes p o rows v = (v.part ≡ p) × HeldIf p o v.header rows v.summary

-- what a row's checks say
ordered : (n : ℕ) (s : Scan) (x : Row) (m : Option Summary) → row_refusal_after n s x m ≡ Ok tt → Ordered m x
ordered n s x None e = tt
ordered n s x (Some m) e = by (leb (moment x.at) (moment m.last)) (allows m.flag x.flag) refl refl e
  where
    by : (a b : Bool) → a ≡ leb (moment x.at) (moment m.last) → b ≡ allows m.flag x.flag → cond a (Err (NotAfter n)) (cond b (room_refusal n s) (Err (FlagChanges n))) ≡ Ok tt → Ordered (Some m) x
    by true b p q h = cc
    by false true p q h = (leb-false (moment x.at) (moment m.last) (sym p), sym q)
    by false false p q h = cc

row_held : (n : ℕ) (s v : Scan) (rows : List Row) (vs : List Value) (a : Result (Unit {0}) Refusal) → a ≡ row_refusal n s (row_of vs) → GoodValues rec.Position vs → Held s.part s.stage s.header rows s.summary → on_ok a (with_row s (row_of vs)) ≡ Ok v
    → Goes s.part (after_position s.stage) (rows ++ (row_of vs ∷ [])) v
row_held n s v rows vs (Err e) q g i h = cc
row_held n s v rows vs (Ok u) q g i h =
    let w : with_row s (row_of vs) ≡ v = cc in
    subst (Goes s.part (after_position s.stage) (rows ++ (row_of vs ∷ []))) w
    (refl, after_position_lem s.part s.stage s.header rows s.summary (row_of vs) (built_position vs g) refl (ordered n s (row_of vs) s.summary (sym q)) i)

-- a record's values taken
module _ (n : ℕ) (s v : Scan) (rows : List Row) where
  taken_held : (t : Record) (vs : List Value) → GoodValues t vs → Held s.part s.stage s.header rows s.summary → taken n s t vs ≡ Ok v → Goes s.part (next_stage s.part s.stage t) (with_part rows (part_in t vs)) v
  taken_held rec.H1 vs g i h =
      let w : with_header s (with_origin s.header (origin_of vs)) s.span ≡ v = cc in
      subst (Goes s.part (after_h1 s.stage) rows) w (refl, after_origin_lem s.part s.stage s.header (origin_of vs) rows s.summary (built_origin vs g) i)
  taken_held rec.H2 vs g i h =
      let w : with_header s (with_satellite s.header (satellite_of vs)) (span_of vs) ≡ v = cc in
      subst (Goes s.part (after_h2 s.stage) rows) w (refl, after_satellite s.part s.stage s.header (satellite_of vs) rows s.summary (built_satellite vs g) i)
  taken_held rec.H3 vs g i h =
      let w : with_header s (with_accuracy s.header (accuracy_of vs)) s.span ≡ v = cc in
      subst (Goes s.part (after_h3 s.stage) rows) w (refl, after_accuracy s.part s.stage s.header (accuracy_of vs) rows s.summary (built_accuracy vs g) i)
  taken_held rec.H5 vs g i h =
      let w : with_header s (with_offset s.header (offset_of vs)) s.span ≡ v = cc in
      subst (Goes s.part (after_h5 s.stage) rows) w (refl, after_offset s.part s.stage s.header (offset_of vs) rows s.summary (built_offset vs g) i)
  taken_held rec.H9 vs g i h = let w : s ≡ v = cc in subst (Goes s.part (after_h9 s.stage) rows) w (refl, after_header s.part s.stage s.header rows s.summary i)
  taken_held rec.Position vs g i h = row_held n s v rows vs (row_refusal n s (row_of vs)) refl g i h
  taken_held rec.Velocity vs g i h =
      let w : s ≡ v = cc in
      subst (Goes s.part (after_velocity s.stage) (completed rows (velocity_of vs))) w (refl, after_velocity_lem s.part s.stage s.header rows s.summary (velocity_of vs) (built_velocity vs g) i)
  taken_held rec.Comment vs g i h = let w : s ≡ v = cc in subst (Goes s.part (after_comment s.stage) rows) w (refl, after_comment_lem s.part s.stage s.header rows s.summary i)
  taken_held rec.Trailer vs g i h = let w : s ≡ v = cc in subst (Goes s.part (after_trailer s.part s.stage) rows) w (refl, after_trailer_lem s.part s.stage s.header rows s.summary i)

  -- a line in its place
  module _ (l : List ℕ) (good : IsLine l) (i : Held s.part s.stage s.header rows s.summary) where
    read_held : (t : Record) (r : Result (List Value) Refusal) → r ≡ read_record n t (drop 2 l) → taken_if n s t r ≡ Ok v → Goes s.part (next_stage s.part s.stage t) (with_part rows (part_by_record n (drop 2 l) t)) v
    read_held t (Err e) q h = cc
    read_held t (Ok vs) q h =
        subst (λ x. Goes s.part (next_stage s.part s.stage t) (with_part rows x) v) (sym (part_is n (drop 2 l) t vs (sym q))) (taken_held t vs (read_good n t l vs good (sym q)) i h)

    comment_held : (t : Record) → is_comment t ≡ true → ◌≡◌ {A = Result Scan Refusal} (Ok s) (Ok v) → Goes s.part (next_stage s.part s.stage t) (with_part rows (part_by_record n (drop 2 l) t)) v
    comment_held rec.H1 c h = cc
    comment_held rec.H2 c h = cc
    comment_held rec.H3 c h = cc
    comment_held rec.H5 c h = cc
    comment_held rec.H9 c h = cc
    comment_held rec.Position c h = cc
    comment_held rec.Velocity c h = cc
    comment_held rec.Comment c h = let w : s ≡ v = cc in subst (Goes s.part (after_comment s.stage) rows) w (refl, after_comment_lem s.part s.stage s.header rows s.summary i)
    comment_held rec.Trailer c h = cc

    content_held : (t : Record) (b : Bool) → b ≡ is_comment t → cond b (Ok s) (taken_if n s t (read_record n t (drop 2 l))) ≡ Ok v → Goes s.part (next_stage s.part s.stage t) (with_part rows (part_by_record n (drop 2 l) t)) v
    content_held t true c h = comment_held t (sym c) h
    content_held t false c h = read_held t (read_record n t (drop 2 l)) refl h

-- the scan u with the rows so far
record HeldBy (p : Part) (u : Scan) (rows : List Row) : Type 0 where
  part : u.part ≡ p
  held : Held p u.stage u.header rows u.summary

module _ (p : Part) (n : ℕ) (l : List ℕ) (s u : Scan) (rows : List Row) (good : IsLine l) (i : HeldBy p s rows) where
  at_held : (t : Record) (st : Stage) (r : Result Scan Refusal) → r ≡ content_step n s t (drop 2 l) → Some st ≡ next_stage s.part s.stage t → at_stage st r ≡ Ok u → HeldBy p u (with_part rows (part_by_record n (drop 2 l) t))
  at_held t st (Err e) q place h = cc
  at_held t st (Ok v) q place h =
      let w : with_stage st v ≡ u = cc in
      let g = content_held n s v rows l good (subst (λ z. Held z s.stage s.header rows s.summary) (sym i.part) i.held) t (is_comment t) refl (sym q) in
      let k : Held s.part st v.header (with_part rows (part_by_record n (drop 2 l) t)) v.summary = subst (λ o. HeldIf s.part o v.header (with_part rows (part_by_record n (drop 2 l) t)) v.summary) (sym place) g.1 in
      subst (λ x. HeldBy p x (with_part rows (part_by_record n (drop 2 l) t))) w (record { part = g.0 ∙ i.part; held = subst (λ z. Held z st v.header (with_part rows (part_by_record n (drop 2 l) t)) v.summary) i.part k })

  place_held : (t : Record) (o : Option Stage) → o ≡ next_stage s.part s.stage t → by_stage n l s t o ≡ Ok u → HeldBy p u (with_part rows (part_by_record n (drop 2 l) t))
  place_held t None place h = cc
  place_held t (Some st) place h = at_held t st (content_step n s t (drop 2 l)) refl place h

  record_held : (o : Option Record) → by_record n l s o ≡ Ok u → HeldBy p u (with_part rows (part_by_type n l o))
  record_held None h = cc
  record_held (Some t) h = place_held t (next_stage s.part s.stage t) refl h

  line_held : line_step n l s ≡ Ok u → HeldBy p u (rows_with n rows l)
  line_held h = record_held (record_of l) h

-- what has ended well has ended in its place
ended : (p : Part) (s : Scan) (n : ℕ) → end_refusal_of p s n ≡ Ok tt → ends_at p s.stage ≡ true
ended part.File s n q = by (is_end s.stage) q
  where
    by : (b : Bool) → cond b (span_refusal s) (Err (OutOfPlace (n + 1))) ≡ Ok tt → b ≡ true
    by true k = refl
    by false k = cc
ended part.Block s n q = by (rows_done s.stage) q
  where
    by : (b : Bool) → ◌≡◌ {A = Result (Unit {0}) Refusal} (cond b (Ok tt) (Err (OutOfPlace (n + 1)))) (Ok tt) → b ≡ true
    by true k = refl
    by false k = cc

-- header and rows of a scan that has ended
abbrev Good : Part → Scan → List Row → Type 0
Good p u rows = GoodHeaderOf p u.header × GoodRows rows

end_held : (p : Part) (s u : Scan) (n : ℕ) (rows : List Row) (o : Option Refusal) → HeldBy p s rows → scan_end_by s n o ≡ Ok u → Good p u rows
end_held p s u n rows (Some e) i h = cc
end_held p s u n rows None i h = by_end (end_refusal s n) refl h
  where
    by_end : (a : Result (Unit {0}) Refusal) → a ≡ end_refusal s n → on_ok a s ≡ Ok u → Good p u rows
    by_end (Err e) q k = cc
    by_end (Ok x) q k =
        let w : s ≡ u = cc in
        let e = ended p s n (sym (ap (λ z. end_refusal_of z s n) i.part) ∙ sym q) in
        subst (λ v. Good p v rows) w (at_end p s.stage s.header rows s.summary e i.held)

-- each line in turn
on_held : (n : ℕ) (l : List ℕ) (ls : List (List ℕ)) (e : Ending) (u : Scan) (P : Type 0) (r : Result Scan Refusal) → ((v : Scan) → r ≡ Ok v → scan_lines (n + 1) ls e v ≡ Ok u → P) → on_scan r (λ t. scan_lines (n + 1) ls e t) ≡ Ok u → P
on_held n l ls e u P (Ok v) h q = h v refl q
on_held n l ls e u P (Err x) h q = cc

lines_held : (p : Part) (n : ℕ) (ls : List (List ℕ)) (e : Ending) (s u : Scan) (rows : List Row) → AllByRecursion IsLine ls → HeldBy p s rows → scan_lines n ls e s ≡ Ok u → Good p u (rows_on n ls rows)
lines_held p n [] e s u rows a i h = end_held p s u n rows (ending_refusal (n + 1) e) i h
lines_held p n (l ∷ ls) e s u rows a i h =
    on_held n l ls e u (Good p u (rows_on n (l ∷ ls) rows)) (line_step (n + 1) l s)
    (λ v c q. lines_held p (n + 1) ls e v u (rows_with (n + 1) rows l) a.1 (line_held p (n + 1) l s v rows a.0 i c) q) h

begun : (p : Part) (room : Option ℕ) → HeldBy p (started p room) []
begun part.File room = record { part = refl; held = record { accuracy = refl; offset = refl; empty = refl; summary = refl } }
begun part.Block room = record { part = refl; held = record { header = tt; empty = refl; summary = refl } }

text_held : (p : Part) (room : Option ℕ) (bs : List ℕ) (u : Scan) → scan_of p room bs ≡ Ok u → Good p u (rows_in bs)
text_held p room bs u q = by (ltb 2097152 (length bs)) q
  where
    by : (b : Bool) → cond b (Err (TooLong 0)) (scan_from 0 (text_of bs) (started p room)) ≡ Ok u → Good p u (rows_in bs)
    by true h = cc
    by false h = lines_held p 0 (text_of bs).lines (text_of bs).ending (started p room) u [] (text_lines bs) (begun p room) h

pub scan_good : (room : ℕ) (bs : List ℕ) (u : Scan) → scan_of part.File (Some room) bs ≡ Ok u → GoodHeader u.header × GoodRows (rows_in bs)
scan_good room bs u q = text_held part.File (Some room) bs u q

pub blocks_are_good : BlocksAreGood
blocks_are_good block u q = (text_held part.Block None block u q).1

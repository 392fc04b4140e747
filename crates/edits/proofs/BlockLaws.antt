-- What the stage of a block's reading tells of its rows.
use Rattle.std.proofs.Common.{◌≡◌, ℕ, ◌+◌, Bool, true, false, cond, ltb, List, [], ◌∷◌, ◌++◌, length, drop, Some, None, Ok, Err, Option, Result, sym, refl, ap, ◌∙◌, subst}
use Rattle.refusal.specs.declared.Refusal.{Refusal}
use Rattle.refusal.specs.declared.Refusal.TheVariants.{OutOfPlace, TooLong}
use Rattle.model.specs.declared.Row.{Row}
use Rattle.model.specs.declared.Vector.{Vector}
use Rattle.lines.specs.Texts.{Ending, text_of, ending_refusal}
use Rattle.records.specs.declared.record.Record.{Record}
use Rattle.records.specs.declared.record.Record.TheVariants as rec
use Rattle.records.specs.declared.field.Value.{Value}
use Rattle.records.specs.Types.{is_comment, record_of}
use Rattle.records.specs.Reads.{read_record}
use Rattle.reading.specs.declared.scan.Scan.{Scan}
use Rattle.reading.specs.declared.stage.Stage.{Stage}
use Rattle.reading.specs.declared.stage.Stage.TheVariants as at
use Rattle.reading.specs.declared.stage.Part.TheVariants.{Block}
use Rattle.reading.specs.declared.part.RowPart.{RowPart}
use Rattle.reading.specs.declared.part.RowPart.TheVariants as parts
use Rattle.records.specs.Builds.{velocity_of}
use Rattle.reading.specs.Builds.{row_of}
use Rattle.reading.specs.Order.{next_stage, rows_done}
use Rattle.reading.specs.Ends.{end_refusal, end_refusal_of}
use Rattle.reading.specs.Scans.{started, row_refusal, with_row, on_ok, taken_if, taken, at_stage, with_stage, content_step, by_stage, by_record, line_step}
use Rattle.reading.specs.Texts.{scan_end_by, on_scan, scan_lines, scan_from, scan_of}
use Rattle.reading.specs.Stores.{completed, with_part, position_part, velocity_part, part_by_record, part_by_type, rows_with, rows_on, rows_in}
use Rattle.edits.specs.Checks.{none, moving, is_some}
use Rattle.edits.specs.Stages.{moving_at}

-- the rows at the stages of a block
data Stands : Stage → List Row → Type 0 where
  start : Stands at.H9 []
  first : (r : Row) → is_some r.velocity ≡ false → Stands at.FirstPosition (r ∷ [])
  position : (rows : List Row) → none rows ≡ false → moving rows ≡ false → Stands at.Position rows
  awaits : (rows : List Row) → none rows ≡ false → moving rows ≡ true → Stands at.AwaitsVelocity rows
  velocity : (rows : List Row) → none rows ≡ false → moving rows ≡ true → Stands at.Velocity rows

-- what an accepted record of a type says of the rows
abbrev PartIs : Record → Option RowPart → Type 0
PartIs rec.H1 p = p ≡ None
PartIs rec.H2 p = p ≡ None
PartIs rec.H3 p = p ≡ None
PartIs rec.H5 p = p ≡ None
PartIs rec.H9 p = p ≡ None
PartIs rec.Position p = (r : Row) × (is_some r.velocity ≡ false) × (p ≡ Some (parts.Position r))
PartIs rec.Velocity p = (v : Vector) × (p ≡ Some (parts.Velocity v))
PartIs rec.Comment p = p ≡ None
PartIs rec.Trailer p = p ≡ None

position_is : (n : ℕ) (rest : List ℕ) (s v : Scan) (r : Result (List Value) Refusal) → r ≡ read_record n rec.Position rest → taken_if n s rec.Position r ≡ Ok v → PartIs rec.Position (part_by_record n rest rec.Position)
position_is n rest s v (Err e) q h = absurd (cc)
position_is n rest s v (Ok vs) q h = (row_of vs, refl, ap position_part (sym q))

velocity_is : (n : ℕ) (rest : List ℕ) (s v : Scan) (r : Result (List Value) Refusal) → r ≡ read_record n rec.Velocity rest → taken_if n s rec.Velocity r ≡ Ok v → PartIs rec.Velocity (part_by_record n rest rec.Velocity)
velocity_is n rest s v (Err e) q h = absurd (cc)
velocity_is n rest s v (Ok vs) q h = (velocity_of vs, ap velocity_part (sym q))

part_is : (n : ℕ) (rest : List ℕ) (s v : Scan) (t : Record) → content_step n s t rest ≡ Ok v → PartIs t (part_by_record n rest t)
part_is n rest s v rec.H1 h = refl
part_is n rest s v rec.H2 h = refl
part_is n rest s v rec.H3 h = refl
part_is n rest s v rec.H5 h = refl
part_is n rest s v rec.H9 h = refl
part_is n rest s v rec.Position h = position_is n rest s v (read_record n rec.Position rest) refl h
part_is n rest s v rec.Velocity h = velocity_is n rest s v (read_record n rec.Velocity rest) refl h
part_is n rest s v rec.Comment h = refl
part_is n rest s v rec.Trailer h = refl

-- a row at the end, and a velocity of the last row
push_some : (rows : List Row) (r : Row) → none (rows ++ (r ∷ [])) ≡ false
push_some [] r = refl
push_some (x ∷ rows) r = refl

push_moving : (rows : List Row) (r : Row) → none rows ≡ false → moving (rows ++ (r ∷ [])) ≡ moving rows
push_moving [] r h = absurd (cc)
push_moving (x ∷ rows) r h = refl

completed_some : (rows : List Row) (v : Vector) → none (completed rows v) ≡ none rows
completed_some [] v = refl
completed_some (r ∷ []) v = refl
completed_some (r ∷ (x ∷ rows)) v = refl

completed_moving : (rows : List Row) (v : Vector) → none rows ≡ false → moving rows ≡ true → moving (completed rows v) ≡ true
completed_moving [] v h m = absurd (cc)
completed_moving (r ∷ []) v h m = refl
completed_moving (r ∷ (x ∷ rows)) v h m = m

abbrev At : Option Stage → List Row → Type 0
At None rows = Unit {0}
At (Some st) rows = Stands st rows

goes : (t : Record) {st : Stage} {rows : List Row} (p : Option RowPart) → Stands st rows → PartIs t p → At (next_stage Block st t) (with_part rows p)
goes rec.H1 p start e = tt
goes rec.H1 p (first q m) e = tt
goes rec.H1 p (position rows a m) e = tt
goes rec.H1 p (awaits rows a m) e = tt
goes rec.H1 p (velocity rows a m) e = tt
goes rec.H2 p start e = tt
goes rec.H2 p (first q m) e = tt
goes rec.H2 p (position rows a m) e = tt
goes rec.H2 p (awaits rows a m) e = tt
goes rec.H2 p (velocity rows a m) e = tt
goes rec.H3 p start e = tt
goes rec.H3 p (first q m) e = tt
goes rec.H3 p (position rows a m) e = tt
goes rec.H3 p (awaits rows a m) e = tt
goes rec.H3 p (velocity rows a m) e = tt
goes rec.H5 p start e = tt
goes rec.H5 p (first q m) e = tt
goes rec.H5 p (position rows a m) e = tt
goes rec.H5 p (awaits rows a m) e = tt
goes rec.H5 p (velocity rows a m) e = tt
goes rec.H9 p start e = tt
goes rec.H9 p (first q m) e = tt
goes rec.H9 p (position rows a m) e = tt
goes rec.H9 p (awaits rows a m) e = tt
goes rec.H9 p (velocity rows a m) e = tt
goes rec.Position p start e = subst (λ z. Stands at.FirstPosition (with_part [] z)) (sym e.2) (first e.0 e.1)
goes rec.Position p (first q m) e = subst (λ z. Stands at.Position (with_part (q ∷ []) z)) (sym e.2) (position (q ∷ (e.0 ∷ [])) refl m)
goes rec.Position p (position rows a m) e = subst (λ z. Stands at.Position (with_part rows z)) (sym e.2) (position (rows ++ (e.0 ∷ [])) (push_some rows e.0) (push_moving rows e.0 a ∙ m))
goes rec.Position p (awaits rows a m) e = tt
goes rec.Position p (velocity rows a m) e = subst (λ z. Stands at.AwaitsVelocity (with_part rows z)) (sym e.2) (awaits (rows ++ (e.0 ∷ [])) (push_some rows e.0) (push_moving rows e.0 a ∙ m))
goes rec.Velocity p start e = tt
goes rec.Velocity p (first q m) e = subst (λ z. Stands at.Velocity (with_part (q ∷ []) z)) (sym e.1) (velocity (completed (q ∷ []) e.0) refl refl)
goes rec.Velocity p (position rows a m) e = tt
goes rec.Velocity p (awaits rows a m) e = subst (λ z. Stands at.Velocity (with_part rows z)) (sym e.1) (velocity (completed rows e.0) (completed_some rows e.0 ∙ a) (completed_moving rows e.0 a m))
goes rec.Velocity p (velocity rows a m) e = tt
goes rec.Comment p start e = subst (λ z. Stands at.H9 (with_part [] z)) (sym e) start
goes rec.Comment p (first q m) e = subst (λ z. Stands at.FirstPosition (with_part (q ∷ []) z)) (sym e) (first q m)
goes rec.Comment p (position rows a m) e = subst (λ z. Stands at.Position (with_part rows z)) (sym e) (position rows a m)
goes rec.Comment p (awaits rows a m) e = subst (λ z. Stands at.AwaitsVelocity (with_part rows z)) (sym e) (awaits rows a m)
goes rec.Comment p (velocity rows a m) e = subst (λ z. Stands at.Velocity (with_part rows z)) (sym e) (velocity rows a m)
goes rec.Trailer p start e = tt
goes rec.Trailer p (first q m) e = tt
goes rec.Trailer p (position rows a m) e = tt
goes rec.Trailer p (awaits rows a m) e = tt
goes rec.Trailer p (velocity rows a m) e = tt

-- the scan of a block with the rows so far
record Reads (s : Scan) (rows : List Row) : Type 0 where
  block : s.part ≡ Block
  stands : Stands s.stage rows

-- a scan keeps its part
row_part : (s v : Scan) (r : Row) (a : Result (Unit {0}) Refusal) → on_ok a (with_row s r) ≡ Ok v → v.part ≡ s.part
row_part s v r (Err e) h = absurd (cc)
row_part s v r (Ok u) h = let w : with_row s r ≡ v = cc in ap (λ x. x.part) (sym w)

taken_part : (n : ℕ) (s v : Scan) (t : Record) (vs : List Value) → taken n s t vs ≡ Ok v → v.part ≡ s.part
taken_part n s v rec.H1 vs h = cc
taken_part n s v rec.H2 vs h = cc
taken_part n s v rec.H3 vs h = cc
taken_part n s v rec.H5 vs h = cc
taken_part n s v rec.H9 vs h = cc
taken_part n s v rec.Position vs h = row_part s v (row_of vs) (row_refusal n s (row_of vs)) h
taken_part n s v rec.Velocity vs h = cc
taken_part n s v rec.Comment vs h = cc
taken_part n s v rec.Trailer vs h = cc

if_part : (n : ℕ) (s v : Scan) (t : Record) (r : Result (List Value) Refusal) → taken_if n s t r ≡ Ok v → v.part ≡ s.part
if_part n s v t (Err e) h = absurd (cc)
if_part n s v t (Ok vs) h = taken_part n s v t vs h

content_part : (n : ℕ) (s v : Scan) (t : Record) (r : Result (List Value) Refusal) (b : Bool) → cond b (Ok s) (taken_if n s t r) ≡ Ok v → v.part ≡ s.part
content_part n s v t r true h = let w : s ≡ v = cc in ap (λ x. x.part) (sym w)
content_part n s v t r false h = if_part n s v t r h

module _ (n : ℕ) (l : List ℕ) (s u : Scan) (rows : List Row) (i : Reads s rows) where
  at_reads : (t : Record) (st : Stage) (r : Result Scan Refusal) → r ≡ content_step n s t (drop 2 l) → Some st ≡ next_stage Block s.stage t → at_stage st r ≡ Ok u → Reads u (with_part rows (part_by_record n (drop 2 l) t))
  at_reads t st (Err e) q place h = absurd (cc)
  at_reads t st (Ok v) q place h =
      let w : with_stage st v ≡ u = cc in
      let part = content_part n s v t (read_record n t (drop 2 l)) (is_comment t) (sym q) in
      let after = goes t (part_by_record n (drop 2 l) t) i.stands (part_is n (drop 2 l) s v t (sym q)) in
      subst (λ x. Reads x (with_part rows (part_by_record n (drop 2 l) t))) w
      (record { block = part ∙ i.block; stands = subst (λ o. At o (with_part rows (part_by_record n (drop 2 l) t))) (sym place) after })

  place_reads : (t : Record) (o : Option Stage) → o ≡ next_stage Block s.stage t → by_stage n l s t o ≡ Ok u → Reads u (with_part rows (part_by_record n (drop 2 l) t))
  place_reads t None place h = absurd (cc)
  place_reads t (Some st) place h = at_reads t st (content_step n s t (drop 2 l)) refl place h

  record_reads : (o : Option Record) → by_record n l s o ≡ Ok u → Reads u (with_part rows (part_by_type n l o))
  record_reads None h = absurd (cc)
  record_reads (Some t) h = place_reads t (next_stage s.part s.stage t) (ap (λ p. next_stage p s.stage t) i.block) h

  line_reads : line_step n l s ≡ Ok u → Reads u (rows_with n rows l)
  line_reads h = record_reads (record_of l) h

-- what is known of the rows of an accepted block
pub record Told (u : Scan) (rows : List Row) : Type 0 where
  pub some : none rows ≡ false
  pub moves : moving rows ≡ moving_at u.stage

stands_told : {st : Stage} {rows : List Row} → Stands st rows → rows_done st ≡ true → (none rows ≡ false) × (moving rows ≡ moving_at st)
stands_told start d = absurd (cc)
stands_told (first r m) d = (refl, m)
stands_told (position rows a m) d = (a, m)
stands_told (awaits rows a m) d = absurd (cc)
stands_told (velocity rows a m) d = (a, m)

end_told : (s u : Scan) (n : ℕ) (rows : List Row) (o : Option Refusal) → Reads s rows → scan_end_by s n o ≡ Ok u → Told u rows
end_told s u n rows (Some e) i h = absurd (cc)
end_told s u n rows None i h = by_end (end_refusal s n) refl h
  where
    ended : (b : Bool) → b ≡ rows_done s.stage → ◌≡◌ {A = Result (Unit {0}) Refusal} (cond b (Ok tt) (Err (OutOfPlace (n + 1)))) (Ok tt) → rows_done s.stage ≡ true
    ended true e k = sym e
    ended false e k = absurd (cc)

    by_end : (a : Result (Unit {0}) Refusal) → a ≡ end_refusal s n → on_ok a s ≡ Ok u → Told u rows
    by_end (Err e) q k = absurd (cc)
    by_end (Ok x) q k =
        let w : s ≡ u = cc in
        let d = ended (rows_done s.stage) refl (sym (ap (λ p. end_refusal_of p s n) i.block) ∙ sym q) in
        let t = stands_told i.stands d in
        subst (λ v. Told v rows) w (record { some = t.0; moves = t.1 })

on_told : (n : ℕ) (ls : List (List ℕ)) (e : Ending) (u : Scan) (P : Type 0) (r : Result Scan Refusal) → ((v : Scan) → r ≡ Ok v → scan_lines (n + 1) ls e v ≡ Ok u → P) → on_scan r (λ t. scan_lines (n + 1) ls e t) ≡ Ok u → P
on_told n ls e u P (Ok v) h q = h v refl q
on_told n ls e u P (Err x) h q = absurd (cc)

lines_told : (n : ℕ) (ls : List (List ℕ)) (e : Ending) (s u : Scan) (rows : List Row) → Reads s rows → scan_lines n ls e s ≡ Ok u → Told u (rows_on n ls rows)
lines_told n [] e s u rows i h = end_told s u n rows (ending_refusal (n + 1) e) i h
lines_told n (l ∷ ls) e s u rows i h =
    on_told n ls e u (Told u (rows_on n (l ∷ ls) rows)) (line_step (n + 1) l s)
    (λ v p q. lines_told (n + 1) ls e v u (rows_with (n + 1) rows l) (line_reads (n + 1) l s v rows i p) q) h

pub block_told : (bs : List ℕ) (u : Scan) → scan_of Block None bs ≡ Ok u → Told u (rows_in bs)
block_told bs u h = by (ltb 2097152 (length bs)) h
  where
    by : (b : Bool) → cond b (Err (TooLong 0)) (scan_from 0 (text_of bs) (started Block None)) ≡ Ok u → Told u (rows_in bs)
    by true k = absurd (cc)
    by false k = lines_told 0 (text_of bs).lines (text_of bs).ending (started Block None) u [] (record { block = refl; stands = start }) k

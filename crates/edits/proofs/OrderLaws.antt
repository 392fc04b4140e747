-- The rows of an accepted text are in order: they ascend, and their leap flags stay.
use Rattle.std.proofs.Common.{◌≡◌, ℕ, ◌+◌, ◌<◌, Bool, true, false, cond, ◌&&◌, ltb, leb, List, [], ◌∷◌, ◌++◌, length, Some, Ok, Err, Option, Result, sym, refl, ap, ◌∙◌, arith, None}
use Rattle.std.proofs.lemmas.Bool.{and_from, and_parts, leb-false, lt-ltb}
use Rattle.refusal.specs.declared.Refusal.{Refusal}
use Rattle.refusal.specs.declared.Refusal.TheVariants.{NotAfter, FlagChanges, TooLong}
use Rattle.calendar.specs.Instants.{moment}
use Rattle.model.specs.declared.Row.{Row}
use Rattle.model.specs.declared.Vector.{Vector}
use Rattle.model.specs.Flags.{allows}
use Rattle.cells.specs.declared.summary.Summary.{Summary}
use Rattle.cells.specs.Cells.{summary_if, last_of, extended_by}
use Rattle.cells.specs.Cells as cells
use Rattle.cells.proofs.CellLaws.{last_by}
use Rattle.lines.specs.Texts.{Ending, text_of}
use Rattle.tables.specs.Lines.{next_after, ascends}
use Rattle.reading.specs.declared.scan.Scan.{Scan}
use Rattle.reading.specs.declared.stage.Part.{Part}
use Rattle.reading.specs.declared.part.RowPart.{RowPart}
use Rattle.reading.specs.declared.part.RowPart.TheVariants as parts
use Rattle.reading.specs.Scans.{started, room_refusal, row_refusal_after, row_refusal, line_step}
use Rattle.reading.specs.Texts.{on_scan, scan_lines, scan_from, scan_of}
use Rattle.reading.specs.Stores.{completed, with_part, part_of, rows_with, rows_on, rows_in}
use Rattle.reading.proofs.TrackLaws.{Step, same, added, line_step_lem, Tracks, tracks_line}
use Rattle.edits.specs.Checks.{next_allowed, flags_stay, in_order}
use Rattle.edits.proofs.FlagLaws.{flag_by, flags_join}

-- a row after the last
push_up : (x : Row) (xs : List Row) (r : Row) → ascends (x ∷ xs) ≡ true → moment (last_of x.at xs) < moment r.at → ascends (x ∷ (xs ++ (r ∷ []))) ≡ true
push_up x [] r h l = and_from _ _ (lt-ltb (moment x.at) (moment r.at) l) refl
push_up x (y ∷ ys) r h l =
    let p = and_parts (next_after x (y ∷ ys)) (ascends (y ∷ ys)) h in
    and_from (next_after x (y ∷ ys)) (ascends (y ∷ (ys ++ (r ∷ [])))) p.0 (push_up y ys r p.1 l)

-- a velocity changes neither instants nor flags
next_completed : (r s : Row) (rs : List Row) (v : Vector) → (next_after r (completed (s ∷ rs) v) ≡ next_after r (s ∷ rs)) × (next_allowed r (completed (s ∷ rs) v) ≡ next_allowed r (s ∷ rs))
next_completed r s [] v = (refl, refl)
next_completed r s (x ∷ rs) v = (refl, refl)

completed_up : (rs : List Row) (v : Vector) → ascends (completed rs v) ≡ ascends rs
completed_up [] v = refl
completed_up (r ∷ []) v = refl
completed_up (r ∷ (s ∷ rs)) v = λ i. (next_completed r s rs v).0 i && completed_up (s ∷ rs) v i

completed_flags : (rs : List Row) (v : Vector) → flags_stay (completed rs v) ≡ flags_stay rs
completed_flags [] v = refl
completed_flags (r ∷ []) v = refl
completed_flags (r ∷ (s ∷ rs)) v = λ i. (next_completed r s rs v).1 i && completed_flags (s ∷ rs) v i

-- an accepted row comes after the one before, with a flag that this one allows
row_after : (n : ℕ) (s : Scan) (r : Row) (m : Summary) → s.summary ≡ Some m → row_refusal n s r ≡ Ok tt → (moment m.last < moment r.at) × (allows m.flag r.flag ≡ true)
row_after n s r m e q = by_tests (leb (moment r.at) (moment m.last)) (allows m.flag r.flag) refl refl (ap (row_refusal_after n s r) (sym e) ∙ q)
  where
    by_tests : (a b : Bool) → a ≡ leb (moment r.at) (moment m.last) → b ≡ allows m.flag r.flag → cond a (Err (NotAfter n)) (cond b (room_refusal n s) (Err (FlagChanges n))) ≡ Ok tt
        → (moment m.last < moment r.at) × (allows m.flag r.flag ≡ true)
    by_tests true b g h p = absurd (cc)
    by_tests false true g h p = (leb-false (moment r.at) (moment m.last) (sym g), sym h)
    by_tests false false g h p = absurd (cc)

added_in_order : (n : ℕ) (s : Scan) (rows : List Row) (r : Row) → s.summary ≡ summary_if rows → in_order rows ≡ true → row_refusal n s r ≡ Ok tt → in_order (rows ++ (r ∷ [])) ≡ true
added_in_order n s [] r e u q = refl
added_in_order n s (x ∷ xs) r e u q =
    let m = extended_by (cells.started x) xs in
    let l = row_after n s r m e q in
    let p = and_parts (ascends (x ∷ xs)) (flags_stay (x ∷ xs)) u in
    and_from (ascends ((x ∷ xs) ++ (r ∷ []))) (flags_stay ((x ∷ xs) ++ (r ∷ [])))
    (push_up x xs r p.0 (let k = ap moment (last_by (cells.started x) xs) in let a = l.0 in omega arith))
    (flags_join (x ∷ xs) (r ∷ []) p.1 (ap (λ f. allows f r.flag) (sym (flag_by (cells.started x) x xs refl)) ∙ l.1) refl)

part_in_order : (p : Option RowPart) (rows : List Row) → ((rows : List Row) → summary_if (with_part rows p) ≡ summary_if rows) → in_order rows ≡ true → in_order (with_part rows p) ≡ true
part_in_order (Some (parts.Position r)) rows g u = absurd (let z = g [] in cc)
part_in_order (Some (parts.Velocity v)) rows g u = (λ i. completed_up rows v i && completed_flags rows v i) ∙ u
part_in_order None rows g u = u

step_in_order : (n : ℕ) (p : Option RowPart) (s u : Scan) (rows : List Row) → s.summary ≡ summary_if rows → in_order rows ≡ true → Step n p s u → in_order (with_part rows p) ≡ true
step_in_order n p s u rows e h (same a b g) = part_in_order p rows g h
step_in_order n p s u rows e h (added r a b c d) = ap (λ z. in_order (with_part rows z)) a ∙ added_in_order n s rows r e h b

on_line_lem : (n : ℕ) (l : List ℕ) (ls : List (List ℕ)) (e : Ending) (s u : Scan) (rows : List Row) (r : Result Scan Refusal) → r ≡ line_step (n + 1) l s
    → ((v : Scan) → line_step (n + 1) l s ≡ Ok v → scan_lines (n + 1) ls e v ≡ Ok u → in_order (rows_on n (l ∷ ls) rows) ≡ true)
    → on_scan r (λ v. scan_lines (n + 1) ls e v) ≡ Ok u → in_order (rows_on n (l ∷ ls) rows) ≡ true
on_line_lem n l ls e s u rows (Err x) k h p = absurd (cc)
on_line_lem n l ls e s u rows (Ok v) k h p = h v (sym k) p

lines_in_order : (n : ℕ) (ls : List (List ℕ)) (e : Ending) (s u : Scan) (rows : List Row) (given : Option ℕ) → Tracks s rows given → in_order rows ≡ true → scan_lines n ls e s ≡ Ok u → in_order (rows_on n ls rows) ≡ true
lines_in_order n [] e s u rows given t h q = h
lines_in_order n (l ∷ ls) e s u rows given t h q =
    on_line_lem n l ls e s u rows (line_step (n + 1) l s) refl
    (λ v k p. lines_in_order (n + 1) ls e v u (rows_with (n + 1) rows l) given (tracks_line (n + 1) l s v rows given t k) (step_in_order (n + 1) (part_of (n + 1) l) s v rows t.summary h (line_step_lem (n + 1) l s v k)) p) q

pub text_in_order : (p : Part) (room : Option ℕ) (bs : List ℕ) (u : Scan) → scan_of p room bs ≡ Ok u → in_order (rows_in bs) ≡ true
text_in_order p room bs u q = long (ltb 2097152 (length bs)) q
  where
    begun : Tracks (started p room) [] room
    begun = record { summary = refl; room = refl; fits = λ k e. omega arith }

    long : (b : Bool) → cond b (Err (TooLong 0)) (scan_from 0 (text_of bs) (started p room)) ≡ Ok u → in_order (rows_in bs) ≡ true
    long true h = absurd (cc)
    long false h = lines_in_order 0 (text_of bs).lines (text_of bs).ending (started p room) u [] room begun refl h

-- The lines of a text are read just where they are records, each of which stands in its place.
use Rattle.std.proofs.Common.{◌≡◌, ℕ, ◌+◌, Bool, true, false, cond, leb, List, [], ◌∷◌, drop, Some, None, Ok, Err, Option, Result, sym, refl, ap, ◌∙◌, subst, ⊎_elim}
use Rattle.refusal.specs.declared.Refusal.{Refusal}
use Rattle.refusal.specs.declared.Refusal.TheVariants.{TooManyRows, NotAfter, FlagChanges}
use Rattle.calendar.specs.Instants.{moment}
use Rattle.model.specs.declared.Row.{Row}
use Rattle.model.specs.Flags.{allows}
use Rattle.cells.specs.declared.summary.Summary.{Summary}
use Rattle.lines.specs.Texts.{Ending, at_line, forbidden, too_long}
use Rattle.records.specs.declared.record.Record.{Record}
use Rattle.records.specs.declared.record.Record.TheVariants as rec
use Rattle.records.specs.declared.field.Value.{Value}
use Rattle.records.specs.Types.{is_comment, record_of}
use Rattle.records.specs.Reads.{read_record}
use Rattle.records.specs.Tables.{fields_of}
use Rattle.reading.specs.declared.scan.Scan.{Scan}
use Rattle.reading.specs.declared.stage.Stage.{Stage}
use Rattle.reading.specs.declared.part.RowPart.{RowPart}
use Rattle.reading.specs.declared.part.RowPart.TheVariants as parts
use Rattle.reading.specs.Order.{next_stage}
use Rattle.records.specs.Builds.{velocity_of}
use Rattle.reading.specs.Builds.{row_of}
use Rattle.reading.specs.Scans.{row_count, is_full_at, room_refusal, row_refusal_after, row_refusal, with_row, on_ok, taken, taken_if, at_stage, with_stage, content_step, by_stage, by_record, line_step}
use Rattle.reading.specs.Ends.{end_refusal}
use Rattle.reading.specs.Texts.{scan_end_by, on_scan, scan_lines}
use Rattle.reading.specs.Stores.{with_part, position_part, velocity_part, part_by_record, part_by_type, part_of, rows_with, rows_on}
use Rattle.format.specs.Format.{IsRecord, Entry, entry, AreRecords}
use Rattle.numbers.proofs.Taken.{by_bool}
use Rattle.format.proofs.RecordLaws.{Reads, record_sound, comment_sound, record_complete, bare_record}

abbrev Checked : Type 0
Checked = Result (Unit {0}) Refusal

-- whether a test refuses does not depend on the refusal that it gives
refuse_any : (b : Bool) (x y : Refusal) (a c : Checked) → (a ≡ Ok tt → c ≡ Ok tt) → cond b (Err x) a ≡ Ok tt → cond b (Err y) c ≡ Ok tt
refuse_any true x y a c f q = cc
refuse_any false x y a c f q = f q

accept_any : (b : Bool) (x y : Refusal) (a c : Checked) → (a ≡ Ok tt → c ≡ Ok tt) → cond b a (Err x) ≡ Ok tt → cond b c (Err y) ≡ Ok tt
accept_any true x y a c f q = f q
accept_any false x y a c f q = cc

room_any : (n m : ℕ) (s : Scan) → room_refusal n s ≡ Ok tt → room_refusal m s ≡ Ok tt
room_any n m s q = refuse_any (is_full_at s.room (row_count s)) (TooManyRows n) (TooManyRows m) (Ok tt) (Ok tt) (λ e. e) q

row_any : (n m : ℕ) (s : Scan) (r : Row) (o : Option Summary) → row_refusal_after n s r o ≡ Ok tt → row_refusal_after m s r o ≡ Ok tt
row_any n m s r None q = room_any n m s q
row_any n m s r (Some b) q =
    refuse_any (leb (moment r.at) (moment b.last)) (NotAfter n) (NotAfter m) _ _
    (λ e. accept_any (allows b.flag r.flag) (FlagChanges n) (FlagChanges m) (room_refusal n s) (room_refusal m s) (room_any n m s) e) q

on_ok_lem : (a b : Checked) (s v : Scan) → (a ≡ Ok tt → b ≡ Ok tt) → on_ok a s ≡ Ok v → on_ok b s ≡ Ok v
on_ok_lem (Ok x) b s v f q = ap (λ z. on_ok z s) (f refl) ∙ q
on_ok_lem (Err e) b s v f q = cc

-- nor on the number of the line
taken_any : (n m : ℕ) (s v : Scan) (t : Record) (vs : List Value) → taken n s t vs ≡ Ok v → taken m s t vs ≡ Ok v
taken_any n m s v rec.H1 vs q = q
taken_any n m s v rec.H2 vs q = q
taken_any n m s v rec.H3 vs q = q
taken_any n m s v rec.H5 vs q = q
taken_any n m s v rec.H9 vs q = q
taken_any n m s v rec.Position vs q = on_ok_lem (row_refusal n s (row_of vs)) (row_refusal m s (row_of vs)) (with_row s (row_of vs)) v (row_any n m s (row_of vs) s.summary) q
taken_any n m s v rec.Velocity vs q = q
taken_any n m s v rec.Comment vs q = q
taken_any n m s v rec.Trailer vs q = q

-- the entry e takes the scan from s to u; without fields it has no values
pub record Follows (s u : Scan) (e : Entry) : Type 0 where
  pub stage : Stage
  pub next : Scan
  pub place : next_stage s.part s.stage e.type ≡ Some stage
  pub content : taken 0 s e.type e.values ≡ Ok next
  pub is : u ≡ with_stage stage next
  pub bare : is_comment e.type ≡ false → fields_of e.type ≡ [] → e.values ≡ []

-- what a record says of the rows
abbrev pub part_by : Record → List Value → Option RowPart
part_by rec.H1 vs = None
part_by rec.H2 vs = None
part_by rec.H3 vs = None
part_by rec.H5 vs = None
part_by rec.H9 vs = None
part_by rec.Position vs = Some (parts.Position (row_of vs))
part_by rec.Velocity vs = Some (parts.Velocity (velocity_of vs))
part_by rec.Comment vs = None
part_by rec.Trailer vs = None

part_is : (n : ℕ) (rest : List ℕ) (t : Record) (vs : List Value) → read_record n t rest ≡ Ok vs → part_by_record n rest t ≡ part_by t vs
part_is n rest rec.H1 vs e = refl
part_is n rest rec.H2 vs e = refl
part_is n rest rec.H3 vs e = refl
part_is n rest rec.H5 vs e = refl
part_is n rest rec.H9 vs e = refl
part_is n rest rec.Position vs e = ap position_part e
part_is n rest rec.Velocity vs e = ap velocity_part e
part_is n rest rec.Comment vs e = refl
part_is n rest rec.Trailer vs e = refl

pub is_comment_lem : (t : Record) → is_comment t ≡ true → t ≡ rec.Comment
is_comment_lem rec.H1 h = cc
is_comment_lem rec.H2 h = cc
is_comment_lem rec.H3 h = cc
is_comment_lem rec.H5 h = cc
is_comment_lem rec.H9 h = cc
is_comment_lem rec.Position h = cc
is_comment_lem rec.Velocity h = cc
is_comment_lem rec.Comment h = refl
is_comment_lem rec.Trailer h = cc

-- the line is an entry that takes the scan from s to u
record StepOf (n : ℕ) (l : List ℕ) (s u : Scan) : Type 0 where
  pub found : Entry
  pub is : IsRecord found.type l found.values
  pub follows : Follows s u found
  pub part : part_of n l ≡ part_by found.type found.values

step_taken : (n : ℕ) (l : List ℕ) (s u v : Scan) (t : Record) (st : Stage) (r : Result (List Value) Refusal) → record_of l ≡ Some t → next_stage s.part s.stage t ≡ Some st → is_comment t ≡ false
    → read_record n t (drop 2 l) ≡ r → taken_if n s t r ≡ Ok v → u ≡ with_stage st v → StepOf n l s u
step_taken n l s u v t st (Err e) i p c d q w = cc
step_taken n l s u v t st (Ok vs) i p c d q w =
    record {
      found = entry t vs;
      is = record_sound n t l vs i c d;
      follows = record { stage = st; next = v; place = p; content = taken_any n 0 s v t vs q; is = w; bare = λ _ e. bare_record t l vs (record_sound n t l vs i c d) e };
      part = ap (part_by_type n l) i ∙ part_is n (drop 2 l) t vs d;
    }

step_content : (n : ℕ) (l : List ℕ) (s u : Scan) (t : Record) (st : Stage) (r : Result Scan Refusal) → record_of l ≡ Some t → next_stage s.part s.stage t ≡ Some st
    → content_step n s t (drop 2 l) ≡ r → at_stage st r ≡ Ok u → StepOf n l s u
step_content n l s u t st (Err e) i p d q = cc
step_content n l s u t st (Ok v) i p d q =
    let w : u ≡ with_stage st v = cc in
    by_bool (is_comment t)
    (λ h. let k : ◌≡◌ {A = Result Scan Refusal} (Ok s) (Ok v) = rw h at d in
    let c = is_comment_lem t h in
    record {
      found = entry t [];
      is = comment_sound t l i h;
      follows = record { stage = st; next = v; place = p; content = ap (λ z. taken 0 s z []) c ∙ k; is = w; bare = λ _ e. refl };
      part = ap (part_by_type n l) (i ∙ ap Some c) ∙ sym (ap (λ z. part_by z []) c);
    })
    (λ h. step_taken n l s u v t st (read_record n t (drop 2 l)) i p h refl (rw h at d) w)

step_place : (n : ℕ) (l : List ℕ) (s u : Scan) (t : Record) (o : Option Stage) → record_of l ≡ Some t → next_stage s.part s.stage t ≡ o → by_stage n l s t o ≡ Ok u → StepOf n l s u
step_place n l s u t None i p q = cc
step_place n l s u t (Some st) i p q = step_content n l s u t st (content_step n s t (drop 2 l)) i p refl q

step_type : (n : ℕ) (l : List ℕ) (s u : Scan) (o : Option Record) → record_of l ≡ o → by_record n l s o ≡ Ok u → StepOf n l s u
step_type n l s u None i q = cc
step_type n l s u (Some t) i q = step_place n l s u t (next_stage s.part s.stage t) i refl q

step_sound : (n : ℕ) (l : List ℕ) (s u : Scan) → line_step n l s ≡ Ok u → StepOf n l s u
step_sound n l s u q = step_type n l s u (record_of l) refl q

-- the content of an entry, and what it says of the rows, as its line has them
content_of : (n : ℕ) (l : List ℕ) (s v : Scan) (t : Record) (vs : List Value) → Reads t l vs → taken 0 s t vs ≡ Ok v → (content_step n s t (drop 2 l) ≡ Ok v) × (part_by_record n (drop 2 l) t ≡ part_by t vs)
content_of n l s v t vs r q = ⊎_elim
    (λ h. let c = is_comment_lem t h.0 in
    let k : ◌≡◌ {A = Result Scan Refusal} (Ok s) (Ok v) = sym (ap (λ z. taken 0 s z vs) c) ∙ q in
    (rw h.0 k, ap (part_by_record n (drop 2 l)) c ∙ sym (ap (λ z. part_by z vs) c)))
    (λ h. (rw h.0 (ap (taken_if n s t) (h.1 n) ∙ taken_any 0 n s v t vs q), part_is n (drop 2 l) t vs (h.1 n)))
    r.found

step_complete : (n : ℕ) (l : List ℕ) (s u : Scan) (e : Entry) → IsRecord e.type l e.values → Follows s u e → (line_step n l s ≡ Ok u) × (part_of n l ≡ part_by e.type e.values)
step_complete n l s u e i f =
    let r = record_complete e.type l e.values i in
    let c = content_of n l s f.next e.type e.values r f.content in (
      ap (by_record n l s) r.type ∙ ap (by_stage n l s e.type) f.place ∙ ap (at_stage f.stage) c.0 ∙ ap Ok (sym f.is),
      ap (part_by_type n l) r.type ∙ c.1,
    )

-- the entries take the scan from s to u
abbrev pub Scanned : List Entry → Scan → Scan → Type 0
Scanned [] s u = s ≡ u
Scanned (e ∷ es) s u = (v : Scan) × Follows s v e × Scanned es v u

abbrev pub rows_by : List Entry → List Row → List Row
rows_by [] rows = rows
rows_by (e ∷ es) rows = rows_by es (with_part rows (part_by e.type e.values))

pub record LinesOf (n : ℕ) (ls : List (List ℕ)) (how : Ending) (s u : Scan) : Type 0 where
  pub ending : how ≡ at_line
  pub entries : List Entry
  pub are : AreRecords ls entries
  pub scanned : Scanned entries s u
  pub last : ℕ
  pub end : end_refusal u last ≡ Ok tt
  pub rows : (rows : List Row) → rows_on n ls rows ≡ rows_by entries rows

end_at : (n : ℕ) (s u : Scan) (a : Checked) → end_refusal s n ≡ a → on_ok a s ≡ Ok u → LinesOf n [] at_line s u
end_at n s u (Err e) h q = cc
end_at n s u (Ok x) h q =
    let w : s ≡ u = cc in
    record { ending = refl; entries = []; are = tt; scanned = w; last = n; end = subst (λ z. end_refusal z n ≡ Ok tt) w h; rows = λ rows. refl }

lines_on : (n : ℕ) (l : List ℕ) (ls : List (List ℕ)) (how : Ending) (s u : Scan) (r : Result Scan Refusal) → line_step (n + 1) l s ≡ r
    → ((v : Scan) → scan_lines (n + 1) ls how v ≡ Ok u → LinesOf (n + 1) ls how v u) → on_scan r (λ t. scan_lines (n + 1) ls how t) ≡ Ok u → LinesOf n (l ∷ ls) how s u
lines_on n l ls how s u (Err e) h next q = cc
lines_on n l ls how s u (Ok v) h next q =
    let a = step_sound (n + 1) l s v h in
    let b = next v q in
    record {
      ending = b.ending;
      entries = a.found ∷ b.entries;
      are = (a.is, b.are);
      scanned = (v, a.follows, b.scanned);
      last = b.last;
      end = b.end;
      rows = λ rows. b.rows (rows_with (n + 1) rows l) ∙ ap (λ p. rows_by b.entries (with_part rows p)) a.part;
    }

pub lines_sound : (n : ℕ) (ls : List (List ℕ)) (how : Ending) (s u : Scan) → scan_lines n ls how s ≡ Ok u → LinesOf n ls how s u
lines_sound n [] at_line s u q = end_at n s u (end_refusal s n) refl q
lines_sound n [] forbidden s u q = cc
lines_sound n [] too_long s u q = cc
lines_sound n (l ∷ ls) how s u q = lines_on n l ls how s u (line_step (n + 1) l s) refl (λ v p. lines_sound (n + 1) ls how v u p) q

pub lines_complete : (n : ℕ) (ls : List (List ℕ)) (es : List Entry) (s u : Scan) → AreRecords ls es → Scanned es s u → ((k : ℕ) → end_refusal u k ≡ Ok tt) → scan_lines n ls at_line s ≡ Ok u
lines_complete n [] [] s u a c end = ap (λ z. scan_end_by z n None) c ∙ ap (λ z. on_ok z u) (end n)
lines_complete n [] (e ∷ es) s u a c end = absurd a
lines_complete n (l ∷ ls) [] s u a c end = absurd a
lines_complete n (l ∷ ls) (e ∷ es) s u a c end =
    ap (λ r. on_scan r (λ t. scan_lines (n + 1) ls at_line t)) (step_complete (n + 1) l s c.0 e a.0 c.1).0 ∙ lines_complete (n + 1) ls es c.0 u a.1 c.2 end

pub rows_complete : (n : ℕ) (ls : List (List ℕ)) (es : List Entry) (s u : Scan) (rows : List Row) → AreRecords ls es → Scanned es s u → rows_on n ls rows ≡ rows_by es rows
rows_complete n [] [] s u rows a c = refl
rows_complete n [] (e ∷ es) s u rows a c = absurd a
rows_complete n (l ∷ ls) [] s u rows a c = absurd a
rows_complete n (l ∷ ls) (e ∷ es) s u rows a c =
    ap (λ p. rows_on (n + 1) ls (with_part rows p)) (step_complete (n + 1) l s c.0 e a.0 c.1).1 ∙ rows_complete (n + 1) ls es c.0 u (with_part rows (part_by e.type e.values)) a.1 c.2

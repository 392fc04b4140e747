-- Rows that follow one another, by their summary and by the rows themselves.
use Rattle.std.proofs.Common.{◌≡◌, ℕ, ◌+◌, ◌<◌, ◌≤◌, Bool, true, false, cond, leb, ◌⊎◌, List, [], ◌∷◌, ◌++◌, length, Some, None, Ok, Err, Option, Result, sym, refl, ap, ◌∙◌, subst, inl, inr, append_assoc, append-nil, arith}
use Rattle.std.specs.List.{AllByRecursion}
use Rattle.std.proofs.lemmas.Bool.{leb-false, lt-leb}
use Rattle.refusal.specs.declared.Refusal.{Refusal}
use Rattle.refusal.specs.declared.Refusal.TheVariants.{TooManyRows, NotAfter, FlagChanges}
use Rattle.calendar.specs.declared.instant.Instant.{Instant}
use Rattle.calendar.specs.Instants.{moment}
use Rattle.model.specs.declared.Row.{Row}
use Rattle.model.specs.declared.Vector.{Vector}
use Rattle.model.specs.declared.LeapFlag.{LeapFlag}
use Rattle.model.specs.declared.LeapFlag.TheVariants.{Removed, NoLeap, Added}
use Rattle.model.specs.declared.header.Header.{Header}
use Rattle.model.specs.Flags.{allows}
use Rattle.cells.specs.declared.summary.Summary.{Summary}
use Rattle.cells.specs.Cells.{extended}
use Rattle.records.specs.declared.record.Record.TheVariants as rec
use Rattle.records.specs.declared.field.Value.{Value}
use Rattle.records.specs.Types.{is_comment}
use Rattle.reading.specs.declared.scan.Scan.{Scan}
use Rattle.reading.specs.declared.build.Span.{Span}
use Rattle.reading.specs.declared.stage.Stage.{Stage}
use Rattle.reading.specs.declared.stage.Part.{Part}
use Rattle.reading.specs.declared.stage.Part.TheVariants as part
use Rattle.records.specs.Builds.{velocity_of}
use Rattle.reading.specs.Builds.{row_of}
use Rattle.reading.specs.Scans.{is_full_at, room_refusal, row_refusal}
use Rattle.reading.specs.Stores.{with_velocity, completed, with_part}
use Rattle.format.specs.Format.{Entry, entry, without_comments, maybe, positions, position_rows, Both, pairs, pair_rows, AreRows, plain, moving, Ascend, FlagsStay}
use Rattle.numbers.proofs.Taken.{by_bool}
use Rattle.format.proofs.StepLaws.{is_comment_lem, part_by, rows_by}

-- what is read, and how many rows there is room for
pub record Source : Type 0 where
  pub part : Part
  pub room : Option ℕ

abbrev pub file : ℕ → Source
file k = record { part = part.File; room = Some k }

abbrev pub block : Source
block = record { part = part.Block; room = None }

-- the scan of a source by its parts
abbrev pub state : Source → Stage → Header → Span → Option Summary → Scan
state k st h p m = record { part = k.part; room = k.room; stage = st; header = h; span = p; summary = m }

-- there is room for one more row after n
abbrev pub RoomAfter : Source → ℕ → Type 0
RoomAfter k n = is_full_at k.room n ≡ false

-- there is room for n rows
abbrev pub RoomFor : Source → ℕ → Type 0
RoomFor k n = (i : ℕ) → i < n → RoomAfter k i

pub file_room : (k n : ℕ) → n ≤ k → RoomFor (file k) n
file_room k n h i q = lt-leb k i (omega arith)

pub block_room : (n : ℕ) → RoomFor block n
block_room n i q = refl

-- the row may follow the rows of the summary
pub record May (k : Source) (m : Summary) (r : Row) : Type 0 where
  pub after : moment m.last < moment r.at
  pub flag : allows m.flag r.flag ≡ true
  pub room : RoomAfter k m.count

refused_not : (b : Bool) (x : Refusal) (a : Result (Unit {0}) Refusal) → cond b (Err x) a ≡ Ok tt → (b ≡ false) × (a ≡ Ok tt)
refused_not true x a q = cc
refused_not false x a q = (refl, q)

accepted : (b : Bool) (x : Refusal) (a : Result (Unit {0}) Refusal) → cond b a (Err x) ≡ Ok tt → (b ≡ true) × (a ≡ Ok tt)
accepted true x a q = (refl, q)
accepted false x a q = cc

pub may_sound : (k : Source) (st : Stage) (h : Header) (p : Span) (m : Summary) (r : Row) → row_refusal 0 (state k st h p (Some m)) r ≡ Ok tt → May k m r
may_sound k st h p m r q =
    let a = refused_not (leb (moment r.at) (moment m.last)) (NotAfter 0) (cond (allows m.flag r.flag) (room_refusal 0 (state k st h p (Some m))) (Err (FlagChanges 0))) q in
    let b = accepted (allows m.flag r.flag) (FlagChanges 0) (room_refusal 0 (state k st h p (Some m))) a.1 in
    let c = refused_not (is_full_at k.room m.count) (TooManyRows 0) (Ok tt) b.1 in
    record { after = leb-false (moment r.at) (moment m.last) a.0; flag = b.0; room = c.0 }

pub may_complete : (k : Source) (st : Stage) (h : Header) (p : Span) (m : Summary) (r : Row) → May k m r → row_refusal 0 (state k st h p (Some m)) r ≡ Ok tt
may_complete k st h p m r y = rw (lt-leb (moment r.at) (moment m.last) y.after, y.flag, y.room)

pub first_sound : (k : Source) (st : Stage) (h : Header) (p : Span) (r : Row) → row_refusal 0 (state k st h p None) r ≡ Ok tt → RoomAfter k 0
first_sound k st h p r q = (refused_not (is_full_at k.room 0) (TooManyRows 0) (Ok tt) q).0

pub first_complete : (k : Source) (st : Stage) (h : Header) (p : Span) (r : Row) → RoomAfter k 0 → row_refusal 0 (state k st h p None) r ≡ Ok tt
first_complete k st h p r y = rw y

-- each row may follow those before it
abbrev pub Chain : Source → Summary → List Row → Type 0
Chain k m [] = Unit {0}
Chain k m (r ∷ rs) = May k m r × Chain k (extended m r) rs

abbrev Later : Instant → List Row → Type 0
Later i rs = AllByRecursion (λ s. moment i < moment s.at) rs

all_later : (i j : Instant) (rs : List Row) → moment i < moment j → Later j rs → Later i rs
all_later i j [] h a = tt
all_later i j (r ∷ rs) h a = (omega (arith, a.0, h), all_later i j rs h a.1)

pub chain_ascends : (k : Source) (m : Summary) (rs : List Row) → Chain k m rs → Later m.last rs × Ascend rs
chain_ascends k m [] c = (tt, tt)
chain_ascends k m (r ∷ rs) c =
    let q = chain_ascends k (extended m r) rs c.1 in
    ((c.0.after, all_later m.last r.at rs c.0.after q.0), (q.0, q.1))

abbrev Stays : LeapFlag → List Row → Type 0
Stays f rs = (f ≡ NoLeap) ⊎ AllByRecursion (λ s. s.flag ≡ f) rs

allows_cases : (f g : LeapFlag) → allows f g ≡ true → (f ≡ NoLeap) ⊎ (g ≡ f)
allows_cases NoLeap g h = inl refl
allows_cases Removed Removed h = inr refl
allows_cases Removed NoLeap h = cc
allows_cases Removed Added h = cc
allows_cases Added Removed h = cc
allows_cases Added NoLeap h = cc
allows_cases Added Added h = inr refl

same_allows : (f : LeapFlag) → allows f f ≡ true
same_allows Removed = refl
same_allows NoLeap = refl
same_allows Added = refl

stays_more : (f g : LeapFlag) (r : Row) (rs : List Row) → r.flag ≡ g → (f ≡ NoLeap) ⊎ (g ≡ f) → Stays g rs → Stays f (r ∷ rs)
stays_more f g r rs e (inl h) s = inl h
stays_more f g r rs e (inr h) (inl n) = inl (sym h ∙ n)
stays_more f g r rs e (inr h) (inr a) = inr (e ∙ h, subst (λ z. AllByRecursion (λ s. s.flag ≡ z) rs) h a)

pub chain_flags : (k : Source) (m : Summary) (rs : List Row) → Chain k m rs → Stays m.flag rs × FlagsStay rs
chain_flags k m [] c = (inr tt, tt)
chain_flags k m (r ∷ rs) c =
    let q = chain_flags k (extended m r) rs c.1 in
    (stays_more m.flag r.flag r rs refl (allows_cases m.flag r.flag c.0.flag) q.0, (q.0, q.1))

pub chain_room : (k : ℕ) (m : Summary) (rs : List Row) → m.count ≤ k → Chain (file k) m rs → m.count + length rs ≤ k
chain_room k m [] h c = omega arith
chain_room k m (r ∷ rs) h c = let a = leb-false k m.count c.0.room in let q = chain_room k (extended m r) rs (omega arith) c.1 in omega arith

allows_next : (f : LeapFlag) (r : Row) (rs : List Row) → Stays f (r ∷ rs) → allows f r.flag ≡ true
allows_next f r rs (inl h) = ap (λ z. allows z r.flag) h
allows_next f r rs (inr a) = ap (allows f) a.0 ∙ same_allows f

pub chain_from : (k : Source) (m : Summary) (rs : List Row) → Later m.last rs → Ascend rs → Stays m.flag rs → FlagsStay rs → RoomFor k (m.count + length rs) → Chain k m rs
chain_from k m [] l a s f h = tt
chain_from k m (r ∷ rs) l a s f h =
    (record { after = l.0; flag = allows_next m.flag r rs s; room = h m.count (omega arith) }, chain_from k (extended m r) rs a.0 a.1 f.0 f.1 (λ i q. h i (omega (arith, q))))

-- the rows that entries make
completed_push : (rows : List Row) (r : Row) (v : Vector) → completed (rows ++ (r ∷ [])) v ≡ rows ++ (with_velocity r v ∷ [])
completed_push [] r v = refl
completed_push (x ∷ []) r v = refl
completed_push (x ∷ (y ∷ rows)) r v = ap (λ l. x ∷ l) (completed_push (y ∷ rows) r v)

plain_rows : (ps : List (List Value)) (rows : List Row) → rows_by (positions ps) rows ≡ rows ++ position_rows ps
plain_rows [] rows = sym (append-nil rows)
plain_rows (p ∷ ps) rows = plain_rows ps (rows ++ (row_of p ∷ [])) ∙ append_assoc rows (row_of p ∷ []) (position_rows ps)

moving_rows : (ps : List Both) (rows : List Row) → rows_by (pairs ps) rows ≡ rows ++ pair_rows ps
moving_rows [] rows = sym (append-nil rows)
moving_rows (p ∷ ps) rows =
    let r = with_velocity (row_of p.position) (velocity_of p.velocity) in
    ap (rows_by (pairs ps)) (completed_push rows (row_of p.position) (velocity_of p.velocity)) ∙ moving_rows ps (rows ++ (r ∷ [])) ∙ append_assoc rows (r ∷ []) (pair_rows ps)

pub body_rows : (es : List Entry) (rows : List Row) → AreRows es rows → rows_by es [] ≡ rows
body_rows es rows (plain ps e f) = ap (λ l. rows_by l []) e ∙ plain_rows ps [] ∙ sym f
body_rows es rows (moving ps e f) = ap (λ l. rows_by l []) e ∙ moving_rows ps [] ∙ sym f

pub bare_rows : (es : List Entry) (rows : List Row) → rows_by es rows ≡ rows_by (without_comments es) rows
bare_rows [] rows = refl
bare_rows (e ∷ es) rows =
    by_bool (is_comment e.type)
    (λ h. rw h (ap (λ t. rows_by es (with_part rows (part_by t e.values))) (is_comment_lem e.type h) ∙ bare_rows es rows))
    (λ h. rw h (bare_rows es (with_part rows (part_by e.type e.values))))

pub trailer_rows : (es : List Entry) (rows : List Row) → rows_by (es ++ (entry rec.Trailer [] ∷ [])) rows ≡ rows_by es rows
trailer_rows [] rows = refl
trailer_rows (e ∷ es) rows = trailer_rows es (with_part rows (part_by e.type e.values))

pub header_rows : (h2 : List Value) (h3 h5 : Option (List Value)) (body : List Entry) → rows_by (entry rec.H2 h2 ∷ maybe rec.H3 h3 (maybe rec.H5 h5 (entry rec.H9 [] ∷ body))) [] ≡ rows_by body []
header_rows h2 None None body = refl
header_rows h2 None (Some f) body = refl
header_rows h2 (Some a) None body = refl
header_rows h2 (Some a) (Some f) body = refl

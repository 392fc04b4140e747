-- The entries of a file or a block that is read stand in the order of the format.
use Rattle.std.proofs.Common.{◌≡◌, ℕ, true, false, cond, List, [], ◌∷◌, ◌++◌, Some, None, Ok, Err, Option, Result, sym, refl, ap, ◌∙◌, subst}
use Rattle.std.specs.List.{AllByRecursion}
use Rattle.refusal.specs.declared.Refusal.{Refusal}
use Rattle.model.specs.declared.Row.{Row}
use Rattle.model.specs.declared.header.Header.{Header}
use Rattle.model.specs.declared.header.Origin.{Origin}
use Rattle.model.specs.declared.header.Satellite.{Satellite}
use Rattle.model.specs.declared.header.Accuracy.{Accuracy}
use Rattle.model.specs.declared.header.Offset.{Offset}
use Rattle.cells.specs.declared.summary.Summary.{Summary}
use Rattle.cells.specs.Cells.{extended, extended_by, summary_if, summary_with}
use Rattle.cells.specs.Cells as cells
use Rattle.records.specs.declared.record.Record.{Record}
use Rattle.records.specs.declared.record.Record.TheVariants as rec
use Rattle.records.specs.declared.field.Value.{Value}
use Rattle.records.specs.Types.{is_comment}
use Rattle.records.specs.Tables.{fields_of}
use Rattle.reading.specs.declared.scan.Scan.{Scan}
use Rattle.reading.specs.declared.build.Span.{Span}
use Rattle.reading.specs.declared.stage.Stage.{Stage}
use Rattle.reading.specs.declared.stage.Stage.TheVariants as at
use Rattle.reading.specs.declared.stage.Part.TheVariants as part
use Rattle.reading.specs.Order.{after_comment, rows_done, next_stage}
use Rattle.records.specs.Builds.{origin_of, satellite_of, accuracy_of, offset_of}
use Rattle.reading.specs.Builds.{span_of, row_of}
use Rattle.reading.specs.Scans.{started, row_refusal, with_row, on_ok, taken, with_stage}
use Rattle.reading.specs.Ends.{is_end}
use Rattle.format.specs.Format.{Entry, entry, without_comments, maybe, positions, position_rows, Both, pairs, pair_rows, AreRows, plain, moving, accuracy_if, offset_if}
use Rattle.format.proofs.StepLaws.{Follows, Scanned}
use Rattle.format.proofs.RowLaws.{Source, file, block, state, RoomAfter, Chain, may_sound, first_sound}
use Rattle.format.proofs.StageLaws.{is_inner, Kind, comment, trailer, inner, kind_of_lem, inner_says, is_open, goes_open, comment_stays, open_not_end, from_end, trailer_place, from_start, from_h1, from_h2, from_h3, from_h5, from_h9, from_first, from_position, from_velocity, from_awaiting}

abbrev pub Inner : Entry → Type 0
Inner e = is_inner e.type ≡ true

on_row : (a : Result (Unit {0}) Refusal) (x next : Scan) → on_ok a x ≡ Ok next → (a ≡ Ok tt) × (next ≡ x)
on_row (Ok u) x next q = (refl, cc)
on_row (Err e) x next q = cc

-- a scan that a record has left is in its part of the text
part_kept : (x next s : Scan) → x.part ≡ s.part → ◌≡◌ {A = Result Scan Refusal} (Ok x) (Ok next) → next.part ≡ s.part
part_kept x next s e q = let w : next ≡ x = cc in ap (λ z. z.part) w ∙ e

taken_part : (s next : Scan) (t : Record) (vs : List Value) → taken 0 s t vs ≡ Ok next → next.part ≡ s.part
taken_part s next rec.H1 vs q = part_kept _ next s refl q
taken_part s next rec.H2 vs q = part_kept _ next s refl q
taken_part s next rec.H3 vs q = part_kept _ next s refl q
taken_part s next rec.H5 vs q = part_kept _ next s refl q
taken_part s next rec.H9 vs q = part_kept s next s refl q
taken_part s next rec.Position vs q = ap (λ z. z.part) (on_row (row_refusal 0 s (row_of vs)) (with_row s (row_of vs)) next q).1
taken_part s next rec.Velocity vs q = part_kept s next s refl q
taken_part s next rec.Comment vs q = part_kept s next s refl q
taken_part s next rec.Trailer vs q = part_kept s next s refl q

pub follows_part : (s v : Scan) (e : Entry) → Follows s v e → v.part ≡ s.part
follows_part s v e f = ap (λ z. z.part) f.is ∙ taken_part s f.next e.type e.values f.content

pub follows_open : (s v : Scan) (e : Entry) → Inner e → Follows s v e → is_open v.stage ≡ true
follows_open s v e i f = ap (λ z. is_open z.stage) f.is ∙ goes_open s.part e.type s.stage f.stage i f.place

-- the entries without their comments take the scan from s to u as well
record Bare (es : List Entry) (s u : Scan) : Type 0 where
  pub inside : AllByRecursion Inner (without_comments es)
  pub scanned : Scanned (without_comments es) s u

comment_same : (s v : Scan) (e : Entry) → is_open s.stage ≡ true → e.type ≡ rec.Comment → Follows s v e → v ≡ s
comment_same s v e o w f =
    let place : after_comment s.stage ≡ Some f.stage = sym (ap (next_stage s.part s.stage) w) ∙ f.place in
    let stays = comment_stays s.stage o in
    let st : f.stage ≡ s.stage = cc in
    let content : ◌≡◌ {A = Result Scan Refusal} (Ok s) (Ok f.next) = sym (ap (λ t. taken 0 s t e.values) w) ∙ f.content in
    let left : f.next ≡ s = cc in
    f.is ∙ (λ i. with_stage (st i) (left i))

comment_bare : (e : Entry) (es : List Entry) (s v u : Scan) → v ≡ s → e.type ≡ rec.Comment → Bare es v u → Bare (e ∷ es) s u
comment_bare e es s v u same w a =
    let h : is_comment e.type ≡ true = ap is_comment w in
    record { inside = rw h a.inside; scanned = rw h (subst (λ z. Scanned (without_comments es) z u) same a.scanned) }

inner_bare : (e : Entry) (es : List Entry) (s v u : Scan) → Inner e → Follows s v e → Bare es v u → Bare (e ∷ es) s u
inner_bare e es s v u w f a =
    let h = inner_says e.type w in
    record { inside = rw h (w, a.inside); scanned = rw h (v, f, a.scanned) }

-- a block has no trailer
block_at : (e : Entry) (es : List Entry) (s v u : Scan) → s.part ≡ part.Block → is_open s.stage ≡ true → Follows s v e → (v.part ≡ part.Block → is_open v.stage ≡ true → Bare es v u) → Kind e.type → Bare (e ∷ es) s u
block_at e es s v u p o f next (comment w) =
    let same = comment_same s v e o w f in
    comment_bare e es s v u same w (next (ap (λ z. z.part) same ∙ p) (ap (λ z. is_open z.stage) same ∙ o))
block_at e es s v u p o f next (trailer w) = let place : None ≡ Some f.stage = (λ i. next_stage (sym p i) s.stage (sym w i)) ∙ f.place in cc
block_at e es s v u p o f next (inner w) = inner_bare e es s v u w f (next (follows_part s v e f ∙ p) (follows_open s v e w f))

block_bare : (es : List Entry) (s u : Scan) → s.part ≡ part.Block → is_open s.stage ≡ true → Scanned es s u → Bare es s u
block_bare [] s u p o c = record { inside = tt; scanned = c }
block_bare (e ∷ es) s u p o c = block_at e es s c.0 u p o c.1 (λ q r. block_bare es c.0 u q r c.2) (kind_of_lem e.type)

-- the entries of a file up to the trailer
record Split (es : List Entry) (s u : Scan) : Type 0 where
  pub middle : List Entry
  pub ends : es ≡ middle ++ (entry rec.Trailer [] ∷ [])
  pub before : Scan
  pub bare : Bare middle s before
  pub done : rows_done before.stage ≡ true
  pub is : u ≡ with_stage at.End before

end_stops : (es : List Entry) (v u : Scan) → v.part ≡ part.File → v.stage ≡ at.End → Scanned es v u → (es ≡ []) × (v ≡ u)
end_stops [] v u p q c = (refl, c)
end_stops (e ∷ es) v u p q c = (let z = from_end e.type c.1.stage (sym (λ i. next_stage (p i) (q i) e.type) ∙ c.1.place) in cc)

split_at : (e : Entry) (es : List Entry) (s v u : Scan) → s.part ≡ part.File → is_open s.stage ≡ true → Follows s v e → Scanned es v u
    → (v.part ≡ part.File → is_open v.stage ≡ true → Split es v u) → Kind e.type → Split (e ∷ es) s u
split_at e es s v u p o f c next (comment w) =
    let same = comment_same s v e o w f in
    let a = next (ap (λ z. z.part) same ∙ p) (ap (λ z. is_open z.stage) same ∙ o) in
    record { middle = e ∷ a.middle; ends = ap (λ l. e ∷ l) a.ends; before = a.before; bare = comment_bare e a.middle s v a.before same w a.bare; done = a.done; is = a.is }
split_at e es s v u p o f c next (trailer w) =
    let place : cond (rows_done s.stage) (Some at.End) None ≡ Some f.stage = (λ i. next_stage (sym p i) s.stage (sym w i)) ∙ f.place in
    let t = trailer_place (rows_done s.stage) f.stage place in
    let content : ◌≡◌ {A = Result Scan Refusal} (Ok s) (Ok f.next) = sym (ap (λ t. taken 0 s t e.values) w) ∙ f.content in
    let left : f.next ≡ s = cc in
    let st = t.1 in
    let here : v ≡ with_stage at.End s = f.is ∙ (λ i. with_stage (st i) (left i)) in
    let n = end_stops es v u (ap (λ z. z.part) here ∙ p) (ap (λ z. z.stage) here) c in
    let none = n.0 in
    let bare = f.bare (ap is_comment w) (ap fields_of w) in
    record {
      middle = [];
      ends = λ i. entry (w i) (bare i) ∷ none i;
      before = s;
      bare = record { inside = tt; scanned = refl };
      done = t.0;
      is = sym n.1 ∙ here;
    }
split_at e es s v u p o f c next (inner w) =
    let a = next (follows_part s v e f ∙ p) (follows_open s v e w f) in
    record { middle = e ∷ a.middle; ends = ap (λ l. e ∷ l) a.ends; before = a.before; bare = inner_bare e a.middle s v a.before w f a.bare; done = a.done; is = a.is }

split : (es : List Entry) (s u : Scan) → s.part ≡ part.File → is_open s.stage ≡ true → is_end u.stage ≡ true → Scanned es s u → Split es s u
split [] s u p o d c = (let z = open_not_end s.stage o (ap (λ z. is_end z.stage) c ∙ d) in cc)
split (e ∷ es) s u p o d c = split_at e es s c.0 u p o c.1 c.2 (λ q r. split es c.0 u q r d c.2) (kind_of_lem e.type)

-- a record that leaves x before its stage is set
left_at : (x next v : Scan) (st : Stage) → ◌≡◌ {A = Result Scan Refusal} (Ok x) (Ok next) → v ≡ with_stage st next → v ≡ with_stage st x
left_at x next v st q e = let w : next ≡ x = cc in e ∙ ap (with_stage st) w

row_at : (k : Source) (st to : Stage) (h : Header) (p : Span) (m : Option Summary) (vs : List Value) (next v : Scan) → taken 0 (state k st h p m) rec.Position vs ≡ Ok next → v ≡ with_stage to next
    → (row_refusal 0 (state k st h p m) (row_of vs) ≡ Ok tt) × (v ≡ state k to h p (Some (summary_with m (row_of vs))))
row_at k st to h p m vs next v q e =
    let r = on_row (row_refusal 0 (state k st h p m) (row_of vs)) (with_row (state k st h p m) (row_of vs)) next q in
    (r.0, e ∙ ap (with_stage to) r.1)

-- further rows without velocities
record Plain (k : Source) (h : Header) (p : Span) (m : Summary) (u : Scan) (es : List Entry) : Type 0 where
  pub more : List (List Value)
  pub are : es ≡ positions more
  pub chain : Chain k m (position_rows more)
  pub header : u.header ≡ h
  pub span : u.span ≡ p
  pub summary : u.summary ≡ Some (extended_by m (position_rows more))

in_plain : (es : List Entry) (k : Source) (h : Header) (p : Span) (m : Summary) (u : Scan) → AllByRecursion Inner es → Scanned es (state k at.Position h p (Some m)) u → Plain k h p m u es
in_plain [] k h p m u i c = record { more = []; are = refl; chain = tt; header = ap (λ z. z.header) (sym c); span = ap (λ z. z.span) (sym c); summary = ap (λ z. z.summary) (sym c) }
in_plain (e ∷ es) k h p m u i c =
    from_position k.part (λ t st. (next : Scan) → taken 0 (state k at.Position h p (Some m)) t e.values ≡ Ok next → c.0 ≡ with_stage st next → Plain k h p m u (entry t e.values ∷ es))
    (λ next q w.
    let r = row_at k at.Position at.Position h p (Some m) e.values next c.0 q w in
    let a = in_plain es k h p (extended m (row_of e.values)) u i.1 (subst (λ z. Scanned es z u) r.1 c.2) in
    record {
      more = e.values ∷ a.more;
      are = ap (λ l. entry rec.Position e.values ∷ l) a.are;
      chain = (may_sound k at.Position h p m (row_of e.values) r.0, a.chain);
      header = a.header;
      span = a.span;
      summary = a.summary;
    })
    e.type c.1.stage i.0 c.1.place c.1.next c.1.content c.1.is

-- further rows with velocities
record Moving (k : Source) (h : Header) (p : Span) (m : Summary) (u : Scan) (es : List Entry) : Type 0 where
  pub more : List Both
  pub are : es ≡ pairs more
  pub chain : Chain k m (pair_rows more)
  pub header : u.header ≡ h
  pub span : u.span ≡ p
  pub summary : u.summary ≡ Some (extended_by m (pair_rows more))

-- the scan has not ended at a stage without whole rows
not_done : {P : Type 0} (s u : Scan) → rows_done s.stage ≡ false → s ≡ u → rows_done u.stage ≡ true → P
not_done s u f e d = (let q = sym f ∙ ap (λ z. rows_done z.stage) e ∙ d in cc)

in_moving : (es : List Entry) (k : Source) (h : Header) (p : Span) (m : Summary) (u : Scan) → AllByRecursion Inner es → Scanned es (state k at.Velocity h p (Some m)) u → rows_done u.stage ≡ true → Moving k h p m u es
in_moving [] k h p m u i c d = record { more = []; are = refl; chain = tt; header = ap (λ z. z.header) (sym c); span = ap (λ z. z.span) (sym c); summary = ap (λ z. z.summary) (sym c) }
in_moving (e ∷ []) k h p m u i c d =
    from_velocity k.part (λ t st. (next : Scan) → c.0 ≡ with_stage st next → Moving k h p m u (entry t e.values ∷ []))
    (λ next w. not_done c.0 u (ap (λ z. rows_done z.stage) w) c.2 d)
    e.type c.1.stage i.0 c.1.place c.1.next c.1.is
in_moving (e ∷ (g ∷ es)) k h p m u i c d =
    from_velocity k.part (λ t st. (next : Scan) → taken 0 (state k at.Velocity h p (Some m)) t e.values ≡ Ok next → c.0 ≡ with_stage st next → Moving k h p m u (entry t e.values ∷ (g ∷ es)))
    (λ next q w.
    let x = row_of e.values in
    let r = row_at k at.Velocity at.AwaitsVelocity h p (Some m) e.values next c.0 q w in
    let wait = state k at.AwaitsVelocity h p (Some (extended m x)) in
    let b : Scanned (g ∷ es) wait u = subst (λ z. Scanned (g ∷ es) z u) r.1 c.2 in
    from_awaiting k.part (λ t st. (then : Scan) → taken 0 wait t g.values ≡ Ok then → b.0 ≡ with_stage st then → Moving k h p m u (entry rec.Position e.values ∷ (entry t g.values ∷ es)))
    (λ then q w.
    let a = in_moving es k h p (extended m x) u i.1.1 (subst (λ z. Scanned es z u) (left_at wait then b.0 at.Velocity q w) b.2) d in
    record {
      more = record { position = e.values; velocity = g.values } ∷ a.more;
      are = ap (λ l. entry rec.Position e.values ∷ (entry rec.Velocity g.values ∷ l)) a.are;
      chain = (let y = may_sound k at.Velocity h p m x r.0 in record { after = y.after; flag = y.flag; room = y.room }, a.chain);
      header = a.header;
      span = a.span;
      summary = a.summary;
    })
    g.type b.1.stage i.1.0 b.1.place b.1.next b.1.content b.1.is)
    e.type c.1.stage i.0 c.1.place c.1.next c.1.content c.1.is

-- one row or more
abbrev pub Chained : Source → List Row → Type 0
Chained k [] = ⊥
Chained k (r ∷ rs) = RoomAfter k 0 × Chain k (cells.started r) rs

pub record RowsOf (k : Source) (h : Header) (p : Span) (u : Scan) (es : List Entry) : Type 0 where
  pub rows : List Row
  pub made : AreRows es rows
  pub chain : Chained k rows
  pub header : u.header ≡ h
  pub span : u.span ≡ p
  pub summary : u.summary ≡ summary_if rows

second : (es : List Entry) (k : Source) (h : Header) (p : Span) (vs : List Value) (u : Scan) → RoomAfter k 0 → AllByRecursion Inner es → Scanned es (state k at.FirstPosition h p (Some (cells.started (row_of vs)))) u → rows_done u.stage ≡ true
    → RowsOf k h p u (entry rec.Position vs ∷ es)
second [] k h p vs u y i c d =
    record { rows = row_of vs ∷ []; made = plain (vs ∷ []) refl refl; chain = (y, tt); header = ap (λ z. z.header) (sym c); span = ap (λ z. z.span) (sym c); summary = ap (λ z. z.summary) (sym c) }
second (e ∷ es) k h p vs u y i c d =
    let m = cells.started (row_of vs) in
    let s = state k at.FirstPosition h p (Some m) in
    from_first k.part (λ t st. (next : Scan) → taken 0 s t e.values ≡ Ok next → c.0 ≡ with_stage st next → RowsOf k h p u (entry rec.Position vs ∷ (entry t e.values ∷ es)))
    (λ next q w.
    let r = row_at k at.FirstPosition at.Position h p (Some m) e.values next c.0 q w in
    let a = in_plain es k h p (extended m (row_of e.values)) u i.1 (subst (λ z. Scanned es z u) r.1 c.2) in
    record {
      rows = row_of vs ∷ (row_of e.values ∷ position_rows a.more);
      made = plain (vs ∷ (e.values ∷ a.more)) (ap (λ l. entry rec.Position vs ∷ (entry rec.Position e.values ∷ l)) a.are) refl;
      chain = (y, (may_sound k at.FirstPosition h p m (row_of e.values) r.0, a.chain));
      header = a.header;
      span = a.span;
      summary = a.summary;
    })
    (λ next q w.
    let a = in_moving es k h p m u i.1 (subst (λ z. Scanned es z u) (left_at s next c.0 at.Velocity q w) c.2) d in
    record {
      rows = pair_rows (record { position = vs; velocity = e.values } ∷ a.more);
      made = moving (record { position = vs; velocity = e.values } ∷ a.more) (ap (λ l. entry rec.Position vs ∷ (entry rec.Velocity e.values ∷ l)) a.are) refl;
      chain = (y, a.chain);
      header = a.header;
      span = a.span;
      summary = a.summary;
    })
    e.type c.1.stage i.0 c.1.place c.1.next c.1.content c.1.is

in_rows : (es : List Entry) (k : Source) (h : Header) (p : Span) (u : Scan) → AllByRecursion Inner es → Scanned es (state k at.H9 h p None) u → rows_done u.stage ≡ true → RowsOf k h p u es
in_rows [] k h p u i c d = not_done (state k at.H9 h p None) u refl c d
in_rows (e ∷ es) k h p u i c d =
    from_h9 k.part (λ t st. (next : Scan) → taken 0 (state k at.H9 h p None) t e.values ≡ Ok next → c.0 ≡ with_stage st next → RowsOf k h p u (entry t e.values ∷ es))
    (λ next q w.
    let r = row_at k at.H9 at.FirstPosition h p None e.values next c.0 q w in
    second es k h p e.values u (first_sound k at.H9 h p (row_of e.values) r.0) i.1 (subst (λ z. Scanned es z u) r.1 c.2) d)
    e.type c.1.stage i.0 c.1.place c.1.next c.1.content c.1.is

abbrev pub head : Origin → Satellite → Option Accuracy → Option Offset → Header
head o s a f = record { origin = o; satellite = s; accuracy = a; offset = f }

-- after H5
record AfterH5 (k : Source) (h : Header) (p : Span) (u : Scan) (es : List Entry) : Type 0 where
  pub body : List Entry
  pub is : es ≡ entry rec.H9 [] ∷ body
  pub rows : RowsOf k h p u body

in_h5 : (es : List Entry) (k : Source) (h : Header) (p : Span) (u : Scan) → AllByRecursion Inner es → Scanned es (state k at.H5 h p None) u → rows_done u.stage ≡ true → AfterH5 k h p u es
in_h5 [] k h p u i c d = not_done (state k at.H5 h p None) u refl c d
in_h5 (e ∷ es) k h p u i c d =
    let s = state k at.H5 h p None in
    from_h5 k.part (λ t st. (next : Scan) → taken 0 s t e.values ≡ Ok next → c.0 ≡ with_stage st next → (is_comment t ≡ false → fields_of t ≡ [] → e.values ≡ []) → AfterH5 k h p u (entry t e.values ∷ es))
    (λ next q w b. record { body = es; is = ap (λ v. entry rec.H9 v ∷ es) (b refl refl); rows = in_rows es k h p u i.1 (subst (λ z. Scanned es z u) (left_at s next c.0 at.H9 q w) c.2) d })
    e.type c.1.stage i.0 c.1.place c.1.next c.1.content c.1.is c.1.bare

-- after H3
record AfterH3 (k : Source) (o : Origin) (s : Satellite) (a : Option Accuracy) (p : Span) (u : Scan) (es : List Entry) : Type 0 where
  pub h5 : Option (List Value)
  pub body : List Entry
  pub is : es ≡ maybe rec.H5 h5 (entry rec.H9 [] ∷ body)
  pub rows : RowsOf k (head o s a (offset_if h5)) p u body

in_h3 : (es : List Entry) (k : Source) (o : Origin) (s : Satellite) (a : Option Accuracy) (p : Span) (u : Scan) → AllByRecursion Inner es → Scanned es (state k at.H3 (head o s a None) p None) u → rows_done u.stage ≡ true → AfterH3 k o s a p u es
in_h3 [] k o s a p u i c d = not_done (state k at.H3 (head o s a None) p None) u refl c d
in_h3 (e ∷ es) k o s a p u i c d =
    let at3 = state k at.H3 (head o s a None) p None in
    from_h3 k.part (λ t st. (next : Scan) → taken 0 at3 t e.values ≡ Ok next → c.0 ≡ with_stage st next → (is_comment t ≡ false → fields_of t ≡ [] → e.values ≡ []) → AfterH3 k o s a p u (entry t e.values ∷ es))
    (λ next q w _.
    let b = in_h5 es k (head o s a (Some (offset_of e.values))) p u i.1 (subst (λ z. Scanned es z u) (left_at _ next c.0 at.H5 q w) c.2) d in
    record { h5 = Some e.values; body = b.body; is = ap (λ l. entry rec.H5 e.values ∷ l) b.is; rows = b.rows })
    (λ next q w b. record { h5 = None; body = es; is = ap (λ v. entry rec.H9 v ∷ es) (b refl refl); rows = in_rows es k (head o s a None) p u i.1 (subst (λ z. Scanned es z u) (left_at at3 next c.0 at.H9 q w) c.2) d })
    e.type c.1.stage i.0 c.1.place c.1.next c.1.content c.1.is c.1.bare

-- after H2
record AfterH2 (k : Source) (o : Origin) (s : Satellite) (p : Span) (u : Scan) (es : List Entry) : Type 0 where
  pub h3 : Option (List Value)
  pub h5 : Option (List Value)
  pub body : List Entry
  pub is : es ≡ maybe rec.H3 h3 (maybe rec.H5 h5 (entry rec.H9 [] ∷ body))
  pub rows : RowsOf k (head o s (accuracy_if h3) (offset_if h5)) p u body

in_h2 : (es : List Entry) (k : Source) (o : Origin) (s : Satellite) (p : Span) (u : Scan) → AllByRecursion Inner es → Scanned es (state k at.H2 (head o s None None) p None) u → rows_done u.stage ≡ true → AfterH2 k o s p u es
in_h2 [] k o s p u i c d = not_done (state k at.H2 (head o s None None) p None) u refl c d
in_h2 (e ∷ es) k o s p u i c d =
    let at2 = state k at.H2 (head o s None None) p None in
    from_h2 k.part (λ t st. (next : Scan) → taken 0 at2 t e.values ≡ Ok next → c.0 ≡ with_stage st next → (is_comment t ≡ false → fields_of t ≡ [] → e.values ≡ []) → AfterH2 k o s p u (entry t e.values ∷ es))
    (λ next q w _.
    let b = in_h3 es k o s (Some (accuracy_of e.values)) p u i.1 (subst (λ z. Scanned es z u) (left_at _ next c.0 at.H3 q w) c.2) d in
    record { h3 = Some e.values; h5 = b.h5; body = b.body; is = ap (λ l. entry rec.H3 e.values ∷ l) b.is; rows = b.rows })
    (λ next q w _.
    let b = in_h5 es k (head o s None (Some (offset_of e.values))) p u i.1 (subst (λ z. Scanned es z u) (left_at _ next c.0 at.H5 q w) c.2) d in
    record { h3 = None; h5 = Some e.values; body = b.body; is = ap (λ l. entry rec.H5 e.values ∷ l) b.is; rows = b.rows })
    (λ next q w b. record { h3 = None; h5 = None; body = es; is = ap (λ v. entry rec.H9 v ∷ es) (b refl refl); rows = in_rows es k (head o s None None) p u i.1 (subst (λ z. Scanned es z u) (left_at at2 next c.0 at.H9 q w) c.2) d })
    e.type c.1.stage i.0 c.1.place c.1.next c.1.content c.1.is c.1.bare

-- after H1
record AfterH1 (k : Source) (o : Origin) (u : Scan) (es : List Entry) : Type 0 where
  pub h2 : List Value
  pub h3 : Option (List Value)
  pub h5 : Option (List Value)
  pub body : List Entry
  pub is : es ≡ entry rec.H2 h2 ∷ maybe rec.H3 h3 (maybe rec.H5 h5 (entry rec.H9 [] ∷ body))
  pub rows : RowsOf k (head o (satellite_of h2) (accuracy_if h3) (offset_if h5)) (span_of h2) u body

abbrev pub after_origin : Source → Origin → Scan
after_origin k o = state k at.H1 (head o (satellite_of []) None None) (span_of []) None

in_h1 : (es : List Entry) (k : Source) (o : Origin) (u : Scan) → AllByRecursion Inner es → Scanned es (after_origin k o) u → rows_done u.stage ≡ true → AfterH1 k o u es
in_h1 [] k o u i c d = not_done (after_origin k o) u refl c d
in_h1 (e ∷ es) k o u i c d =
    from_h1 k.part (λ t st. (next : Scan) → taken 0 (after_origin k o) t e.values ≡ Ok next → c.0 ≡ with_stage st next → AfterH1 k o u (entry t e.values ∷ es))
    (λ next q w.
    let b = in_h2 es k o (satellite_of e.values) (span_of e.values) u i.1 (subst (λ z. Scanned es z u) (left_at _ next c.0 at.H2 q w) c.2) d in
    record { h2 = e.values; h3 = b.h3; h5 = b.h5; body = b.body; is = ap (λ l. entry rec.H2 e.values ∷ l) b.is; rows = b.rows })
    e.type c.1.stage i.0 c.1.place c.1.next c.1.content c.1.is

-- the whole file
pub record OrderOf (k : ℕ) (u : Scan) (es : List Entry) : Type 0 where
  pub h1 : List Value
  pub h2 : List Value
  pub h3 : Option (List Value)
  pub h5 : Option (List Value)
  pub middle : List Entry
  pub ends : es ≡ entry rec.H1 h1 ∷ (middle ++ (entry rec.Trailer [] ∷ []))
  pub body : List Entry
  pub order : without_comments middle ≡ entry rec.H2 h2 ∷ maybe rec.H3 h3 (maybe rec.H5 h5 (entry rec.H9 [] ∷ body))
  pub rows : RowsOf (file k) (head (origin_of h1) (satellite_of h2) (accuracy_if h3) (offset_if h5)) (span_of h2) u body

-- the trailer changes nothing but the stage
rows_at_end : (k : Source) (h : Header) (p : Span) (v u : Scan) (es : List Entry) → u ≡ with_stage at.End v → RowsOf k h p v es → RowsOf k h p u es
rows_at_end k h p v u es w r =
    record { rows = r.rows; made = r.made; chain = r.chain; header = ap (λ z. z.header) w ∙ r.header; span = ap (λ z. z.span) w ∙ r.span; summary = ap (λ z. z.summary) w ∙ r.summary }

order_from : (e : Entry) (es : List Entry) (k : ℕ) (v u : Scan) → is_end u.stage ≡ true → v ≡ after_origin (file k) (origin_of e.values) → Scanned es v u → OrderOf k u (entry rec.H1 e.values ∷ es)
order_from e es k v u d w c =
    let o = origin_of e.values in
    let x = split es (after_origin (file k) o) u refl refl d (subst (λ z. Scanned es z u) w c) in
    let b = in_h1 (without_comments x.middle) (file k) o x.before x.bare.inside x.bare.scanned x.done in
    record {
      h1 = e.values;
      h2 = b.h2;
      h3 = b.h3;
      h5 = b.h5;
      middle = x.middle;
      ends = ap (λ l. entry rec.H1 e.values ∷ l) x.ends;
      body = b.body;
      order = b.is;
      rows = rows_at_end (file k) (head o (satellite_of b.h2) (accuracy_if b.h3) (offset_if b.h5)) (span_of b.h2) x.before u b.body x.is b.rows;
    }

pub order_sound : (es : List Entry) (k : ℕ) (u : Scan) → is_end u.stage ≡ true → Scanned es (started part.File (Some k)) u → OrderOf k u es
order_sound [] k u d c = (let q : false ≡ true = ap (λ z. is_end z.stage) c ∙ d in cc)
order_sound (e ∷ es) k u d c =
    from_start (λ t st. (next : Scan) → taken 0 (started part.File (Some k)) t e.values ≡ Ok next → c.0 ≡ with_stage st next → OrderOf k u (entry t e.values ∷ es))
    (λ next q w. order_from e es k c.0 u d (left_at _ next c.0 at.H1 q w) c.2)
    e.type c.1.stage c.1.place c.1.next c.1.content c.1.is

-- the whole block; its header is that of a scan that begins
pub block_sound : (es : List Entry) (u : Scan) → rows_done u.stage ≡ true → Scanned es (started part.Block None) u → RowsOf block (head (origin_of []) (satellite_of []) None None) (span_of []) u (without_comments es)
block_sound es u d c = let b = block_bare es (started part.Block None) u refl refl c in in_rows (without_comments es) block (head (origin_of []) (satellite_of []) None None) (span_of []) u b.inside b.scanned d

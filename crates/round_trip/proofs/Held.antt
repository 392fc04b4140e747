-- What is kept while a file or a block is read: header and rows so far are good.
use Rattle.std.proofs.Common.{◌≡◌, ◌<◌, Bool, true, false, cond, List, [], ◌∷◌, ◌++◌, Some, None, Option, sym, refl, ap, ◌∙◌, subst, arith}
use Rattle.std.proofs.ByRecursion.{All-push}
use Rattle.calendar.specs.Instants.{moment}
use Rattle.cells.specs.declared.summary.Summary.{Summary}
use Rattle.cells.specs.Cells.{summary_with}
use Rattle.model.specs.declared.Row.{Row}
use Rattle.model.specs.declared.Vector.{Vector}
use Rattle.model.specs.Flags.{allows}
use Rattle.model.specs.declared.header.Header.{Header}
use Rattle.model.specs.declared.header.Origin.{Origin}
use Rattle.model.specs.declared.header.Satellite.{Satellite}
use Rattle.model.specs.declared.header.Accuracy.{Accuracy}
use Rattle.model.specs.declared.header.Offset.{Offset}
use Rattle.records.specs.declared.record.Record.TheVariants as rec
use Rattle.reading.specs.declared.stage.Stage.{Stage}
use Rattle.reading.specs.declared.stage.Stage.TheVariants as at
use Rattle.reading.specs.declared.stage.Part.{Part}
use Rattle.reading.specs.declared.stage.Part.TheVariants as part
use Rattle.reading.specs.Order.{after_h1, after_h2, after_h3, after_h5, after_h9, after_position, after_velocity, after_comment, after_trailer, rows_done}
use Rattle.reading.specs.Ends.{is_end}
use Rattle.reading.specs.Stores.{with_velocity, completed}
use Rattle.writing.specs.Values.{origin_values, offset_values, position_values, velocity_values}
use Rattle.round_trip.specs.Goods.{GoodValues}
use Rattle.round_trip.specs.Contents.{GoodSatellite, GoodAccuracy, GoodAccuracyIf, GoodOffsetIf, GoodHeader, GoodVelocityIf, GoodRow, is_some, has_velocity, Follows, InOrder, GoodRows}
use Rattle.round_trip.proofs.RowPasses.{completed_push}

-- good rows, with velocities or without; the summary tells the instant and the flag of the last one
pub record Whole (b : Bool) (rows : List Row) (m : Summary) : Type 0 where
  pub front : List Row
  pub last : Row
  pub is : rows ≡ front ++ (last ∷ [])
  pub good : GoodRows rows
  pub at : m.last ≡ last.at
  pub flag : m.flag ≡ last.flag
  pub velocity : has_velocity last ≡ b

-- one position, whose velocity may follow
pub record First (rows : List Row) (m : Summary) : Type 0 where
  pub row : Row
  pub is : rows ≡ row ∷ []
  pub position : GoodValues rec.Position (position_values row)
  pub none : row.velocity ≡ None
  pub at : m.last ≡ row.at
  pub flag : m.flag ≡ row.flag

-- rows with velocities, and a position that awaits its velocity
pub record Awaits (rows : List Row) (m : Summary) : Type 0 where
  pub before : List Row
  pub sum : Summary
  pub row : Row
  pub whole : Whole true before sum
  pub is : rows ≡ before ++ (row ∷ [])
  pub position : GoodValues rec.Position (position_values row)
  pub later : moment sum.last < moment row.at
  pub flags : allows sum.flag row.flag ≡ true
  pub at : m.last ≡ row.at
  pub flag : m.flag ≡ row.flag

-- before H2 there is neither H3 nor H5, and before H9 no row
pub record Begun (h : Header) (rows : List Row) (m : Option Summary) : Type 0 where
  pub accuracy : h.accuracy ≡ None
  pub offset : h.offset ≡ None
  pub empty : rows ≡ []
  pub summary : m ≡ None

-- a file has a good header, a block has none
abbrev pub GoodHeaderOf : Part → Header → Type 0
GoodHeaderOf part.File h = GoodHeader h
GoodHeaderOf part.Block h = Unit {0}

pub record Headed (p : Part) (h : Header) (rows : List Row) (m : Option Summary) : Type 0 where
  pub header : GoodHeaderOf p h
  pub empty : rows ≡ []
  pub summary : m ≡ None

abbrev pub SumIf : Option Summary → (Summary → Type 0) → Type 0
SumIf None P = ⊥
SumIf (Some m) P = P m

-- what holds at each stage
abbrev pub Held : Part → Stage → Header → List Row → Option Summary → Type 0
Held p at.Start h rows m = Begun h rows m
Held p at.H1 h rows m = GoodValues rec.H1 (origin_values h.origin) × Begun h rows m
Held p at.H2 h rows m = Headed p h rows m
Held p at.H3 h rows m = Headed p h rows m
Held p at.H5 h rows m = Headed p h rows m
Held p at.H9 h rows m = Headed p h rows m
Held p at.FirstPosition h rows m = GoodHeaderOf p h × SumIf m (First rows)
Held p at.Position h rows m = GoodHeaderOf p h × SumIf m (Whole false rows)
Held p at.AwaitsVelocity h rows m = GoodHeaderOf p h × SumIf m (Awaits rows)
Held p at.Velocity h rows m = GoodHeaderOf p h × SumIf m (Whole true rows)
Held p at.End h rows m = GoodHeaderOf p h × GoodRows rows

-- nothing is asked where a record does not stand in its place
abbrev pub HeldIf : Part → Option Stage → Header → List Row → Option Summary → Type 0
HeldIf p None h rows m = Unit {0}
HeldIf p (Some st) h rows m = Held p st h rows m

-- one row more
order_push : (r : Row) (ys : List Row) (l x : Row) → InOrder r (ys ++ (l ∷ [])) → Follows l x → InOrder r ((ys ++ (l ∷ [])) ++ (x ∷ []))
order_push r [] l x o f = (o.0, (f, tt))
order_push r (y ∷ ys) l x o f = (o.0, order_push y ys l x o.1 f)

rows_push : (front : List Row) (l x : Row) → GoodRows (front ++ (l ∷ [])) → GoodRow x → Follows l x → GoodRows ((front ++ (l ∷ [])) ++ (x ∷ []))
rows_push [] l x g k f = ((g.0.0, (k, tt)), (f, tt))
rows_push (y ∷ ys) l x g k f = (All-push GoodRow (y ∷ (ys ++ (l ∷ []))) x g.0 k, order_push y ys l x g.1 f)

whole_push : (b : Bool) (rows : List Row) (sum m : Summary) (x : Row) → Whole b rows sum → GoodRow x → moment sum.last < moment x.at → allows sum.flag x.flag ≡ true → has_velocity x ≡ b → m.last ≡ x.at → m.flag ≡ x.flag
    → Whole b (rows ++ (x ∷ [])) m
whole_push b rows sum m x w k later flags v at flag =
    let l = w.last in
    let f : Follows l x = record { later = omega (arith, ap moment w.at); flag = ap (λ y. allows y x.flag) (sym w.flag) ∙ flags; velocity = v ∙ sym w.velocity } in
    let good = rows_push w.front l x (subst GoodRows w.is w.good) k f in
    record { front = rows; last = x; is = refl; good = subst (λ r. GoodRows (r ++ (x ∷ []))) (sym w.is) good; at = at; flag = flag; velocity = v }

none_velocity : (v : Option Vector) → v ≡ None → GoodVelocityIf v × (is_some v ≡ false)
none_velocity None e = (tt, refl)
none_velocity (Some v) e = cc

bare_row : (x : Row) → GoodValues rec.Position (position_values x) → x.velocity ≡ None → GoodRow x
bare_row x g e = record { position = g; velocity = (none_velocity x.velocity e).0 }

one_row : (b : Bool) (m : Summary) (x : Row) → GoodRow x → has_velocity x ≡ b → m.last ≡ x.at → m.flag ≡ x.flag → Whole b (x ∷ []) m
one_row b m x g v at flag = record { front = []; last = x; is = refl; good = ((g, tt), tt); at = at; flag = flag; velocity = v }

first_whole : (rows : List Row) (m : Summary) → First rows m → Whole false rows m
first_whole rows m f = subst (λ l. Whole false l m) (sym f.is) (one_row false m f.row (bare_row f.row f.position f.none) (none_velocity f.row.velocity f.none).1 f.at f.flag)

last_with : (m : Option Summary) (x : Row) → ((summary_with m x).last ≡ x.at) × ((summary_with m x).flag ≡ x.flag)
last_with None x = (refl, refl)
last_with (Some m) x = (refl, refl)

-- a row that may follow those before it
abbrev pub Ordered : Option Summary → Row → Type 0
Ordered None x = Unit {0}
Ordered (Some m) x = (moment m.last < moment x.at) × (allows m.flag x.flag ≡ true)

-- each record in its place

abbrev pub with_origin : Header → Origin → Header
with_origin h o = record { origin = o; satellite = h.satellite; accuracy = h.accuracy; offset = h.offset }

abbrev pub with_satellite : Header → Satellite → Header
with_satellite h s = record { origin = h.origin; satellite = s; accuracy = h.accuracy; offset = h.offset }

abbrev pub with_accuracy : Header → Accuracy → Header
with_accuracy h a = record { origin = h.origin; satellite = h.satellite; accuracy = Some a; offset = h.offset }

abbrev pub with_offset : Header → Offset → Header
with_offset h o = record { origin = h.origin; satellite = h.satellite; accuracy = h.accuracy; offset = Some o }

begun_origin : (h : Header) (o : Origin) (rows : List Row) (m : Option Summary) → Begun h rows m → Begun (with_origin h o) rows m
begun_origin h o rows m i = record { accuracy = i.accuracy; offset = i.offset; empty = i.empty; summary = i.summary }

headed_satellite : (p : Part) (h : Header) (s : Satellite) (rows : List Row) (m : Option Summary) → GoodSatellite s → GoodValues rec.H1 (origin_values h.origin) × Begun h rows m → Headed p (with_satellite h s) rows m
headed_satellite p h s rows m g i = record { header = good p; empty = i.1.empty; summary = i.1.summary }
  where
    good : (q : Part) → GoodHeaderOf q (with_satellite h s)
    good part.File = record { origin = i.0; satellite = g; accuracy = subst GoodAccuracyIf (sym i.1.accuracy) tt; offset = subst GoodOffsetIf (sym i.1.offset) tt }
    good part.Block = tt

headed_accuracy : (p : Part) (h : Header) (a : Accuracy) (rows : List Row) (m : Option Summary) → GoodAccuracy a → Headed p h rows m → Headed p (with_accuracy h a) rows m
headed_accuracy p h a rows m g i = record { header = good p i.header; empty = i.empty; summary = i.summary }
  where
    good : (q : Part) → GoodHeaderOf q h → GoodHeaderOf q (with_accuracy h a)
    good part.File k = record { origin = k.origin; satellite = k.satellite; accuracy = g; offset = k.offset }
    good part.Block k = tt

headed_offset : (p : Part) (h : Header) (o : Offset) (rows : List Row) (m : Option Summary) → GoodValues rec.H5 (offset_values o) → Headed p h rows m → Headed p (with_offset h o) rows m
headed_offset p h o rows m g i = record { header = good p i.header; empty = i.empty; summary = i.summary }
  where
    good : (q : Part) → GoodHeaderOf q h → GoodHeaderOf q (with_offset h o)
    good part.File k = record { origin = k.origin; satellite = k.satellite; accuracy = k.accuracy; offset = g }
    good part.Block k = tt

first_row : (p : Part) (h : Header) (rows : List Row) (m : Option Summary) (x : Row) → GoodValues rec.Position (position_values x) → x.velocity ≡ None → Headed p h rows m → First (rows ++ (x ∷ [])) (summary_with m x)
first_row p h rows m x g none i =
    let w = last_with m x in
    record { row = x; is = ap (λ l. l ++ (x ∷ [])) i.empty; position = g; none = none; at = w.0; flag = w.1 }

next_row : (rows : List Row) (m : Summary) (x : Row) → GoodValues rec.Position (position_values x) → x.velocity ≡ None → Whole false rows m → Ordered (Some m) x → Whole false (rows ++ (x ∷ [])) (summary_with (Some m) x)
next_row rows m x g none w o = whole_push false rows m (summary_with (Some m) x) x w (bare_row x g none) o.0 o.1 (none_velocity x.velocity none).1 refl refl

awaits_row : (rows : List Row) (m : Summary) (x : Row) → GoodValues rec.Position (position_values x) → Whole true rows m → Ordered (Some m) x → Awaits (rows ++ (x ∷ [])) (summary_with (Some m) x)
awaits_row rows m x g w o = record { before = rows; sum = m; row = x; whole = w; is = refl; position = g; later = o.0; flags = o.1; at = refl; flag = refl }

first_velocity : (rows : List Row) (m : Summary) (v : Vector) → GoodValues rec.Velocity (velocity_values v) → First rows m → Whole true (completed rows v) m
first_velocity rows m v g f =
    subst (λ l. Whole true (completed l v) m) (sym f.is) (one_row true m (with_velocity f.row v) (record { position = f.position; velocity = g }) refl f.at f.flag)

awaited_velocity : (rows : List Row) (m : Summary) (v : Vector) → GoodValues rec.Velocity (velocity_values v) → Awaits rows m → Whole true (completed rows v) m
awaited_velocity rows m v g a =
    let x = with_velocity a.row v in
    let w = whole_push true a.before a.sum m x a.whole (record { position = a.position; velocity = g }) a.later a.flags refl a.at a.flag in
    subst (λ l. Whole true l m) (sym (ap (λ l. completed l v) a.is ∙ completed_push a.before a.row v)) w

pub after_origin_lem : (p : Part) (st : Stage) (h : Header) (o : Origin) (rows : List Row) (m : Option Summary) → GoodValues rec.H1 (origin_values o) → Held p st h rows m → HeldIf p (after_h1 st) (with_origin h o) rows m
after_origin_lem p at.Start h o rows m g i = (g, begun_origin h o rows m i)
after_origin_lem p at.H1 h o rows m g i = tt
after_origin_lem p at.H2 h o rows m g i = tt
after_origin_lem p at.H3 h o rows m g i = tt
after_origin_lem p at.H5 h o rows m g i = tt
after_origin_lem p at.H9 h o rows m g i = tt
after_origin_lem p at.FirstPosition h o rows m g i = tt
after_origin_lem p at.Position h o rows m g i = tt
after_origin_lem p at.AwaitsVelocity h o rows m g i = tt
after_origin_lem p at.Velocity h o rows m g i = tt
after_origin_lem p at.End h o rows m g i = tt

pub after_satellite : (p : Part) (st : Stage) (h : Header) (s : Satellite) (rows : List Row) (m : Option Summary) → GoodSatellite s → Held p st h rows m → HeldIf p (after_h2 st) (with_satellite h s) rows m
after_satellite p at.Start h s rows m g i = tt
after_satellite p at.H1 h s rows m g i = headed_satellite p h s rows m g i
after_satellite p at.H2 h s rows m g i = tt
after_satellite p at.H3 h s rows m g i = tt
after_satellite p at.H5 h s rows m g i = tt
after_satellite p at.H9 h s rows m g i = tt
after_satellite p at.FirstPosition h s rows m g i = tt
after_satellite p at.Position h s rows m g i = tt
after_satellite p at.AwaitsVelocity h s rows m g i = tt
after_satellite p at.Velocity h s rows m g i = tt
after_satellite p at.End h s rows m g i = tt

pub after_accuracy : (p : Part) (st : Stage) (h : Header) (a : Accuracy) (rows : List Row) (m : Option Summary) → GoodAccuracy a → Held p st h rows m → HeldIf p (after_h3 st) (with_accuracy h a) rows m
after_accuracy p at.Start h a rows m g i = tt
after_accuracy p at.H1 h a rows m g i = tt
after_accuracy p at.H2 h a rows m g i = headed_accuracy p h a rows m g i
after_accuracy p at.H3 h a rows m g i = tt
after_accuracy p at.H5 h a rows m g i = tt
after_accuracy p at.H9 h a rows m g i = tt
after_accuracy p at.FirstPosition h a rows m g i = tt
after_accuracy p at.Position h a rows m g i = tt
after_accuracy p at.AwaitsVelocity h a rows m g i = tt
after_accuracy p at.Velocity h a rows m g i = tt
after_accuracy p at.End h a rows m g i = tt

pub after_offset : (p : Part) (st : Stage) (h : Header) (o : Offset) (rows : List Row) (m : Option Summary) → GoodValues rec.H5 (offset_values o) → Held p st h rows m → HeldIf p (after_h5 st) (with_offset h o) rows m
after_offset p at.Start h o rows m g i = tt
after_offset p at.H1 h o rows m g i = tt
after_offset p at.H2 h o rows m g i = headed_offset p h o rows m g i
after_offset p at.H3 h o rows m g i = headed_offset p h o rows m g i
after_offset p at.H5 h o rows m g i = tt
after_offset p at.H9 h o rows m g i = tt
after_offset p at.FirstPosition h o rows m g i = tt
after_offset p at.Position h o rows m g i = tt
after_offset p at.AwaitsVelocity h o rows m g i = tt
after_offset p at.Velocity h o rows m g i = tt
after_offset p at.End h o rows m g i = tt

pub after_header : (p : Part) (st : Stage) (h : Header) (rows : List Row) (m : Option Summary) → Held p st h rows m → HeldIf p (after_h9 st) h rows m
after_header p at.Start h rows m i = tt
after_header p at.H1 h rows m i = tt
after_header p at.H2 h rows m i = i
after_header p at.H3 h rows m i = i
after_header p at.H5 h rows m i = i
after_header p at.H9 h rows m i = tt
after_header p at.FirstPosition h rows m i = tt
after_header p at.Position h rows m i = tt
after_header p at.AwaitsVelocity h rows m i = tt
after_header p at.Velocity h rows m i = tt
after_header p at.End h rows m i = tt

pub after_position_lem : (p : Part) (st : Stage) (h : Header) (rows : List Row) (m : Option Summary) (x : Row) → GoodValues rec.Position (position_values x) → x.velocity ≡ None → Ordered m x → Held p st h rows m → HeldIf p (after_position st) h (rows ++ (x ∷ [])) (Some (summary_with m x))
after_position_lem p at.Start h rows m x g none o i = tt
after_position_lem p at.H1 h rows m x g none o i = tt
after_position_lem p at.H2 h rows m x g none o i = tt
after_position_lem p at.H3 h rows m x g none o i = tt
after_position_lem p at.H5 h rows m x g none o i = tt
after_position_lem p at.H9 h rows m x g none o i = (i.header, first_row p h rows m x g none i)
after_position_lem p at.FirstPosition h rows None x g none o i = absurd i.1
after_position_lem p at.FirstPosition h rows (Some m) x g none o i = (i.0, next_row rows m x g none (first_whole rows m i.1) o)
after_position_lem p at.Position h rows None x g none o i = absurd i.1
after_position_lem p at.Position h rows (Some m) x g none o i = (i.0, next_row rows m x g none i.1 o)
after_position_lem p at.AwaitsVelocity h rows m x g none o i = tt
after_position_lem p at.Velocity h rows None x g none o i = absurd i.1
after_position_lem p at.Velocity h rows (Some m) x g none o i = (i.0, awaits_row rows m x g i.1 o)
after_position_lem p at.End h rows m x g none o i = tt

pub after_velocity_lem : (p : Part) (st : Stage) (h : Header) (rows : List Row) (m : Option Summary) (v : Vector) → GoodValues rec.Velocity (velocity_values v) → Held p st h rows m → HeldIf p (after_velocity st) h (completed rows v) m
after_velocity_lem p at.Start h rows m v g i = tt
after_velocity_lem p at.H1 h rows m v g i = tt
after_velocity_lem p at.H2 h rows m v g i = tt
after_velocity_lem p at.H3 h rows m v g i = tt
after_velocity_lem p at.H5 h rows m v g i = tt
after_velocity_lem p at.H9 h rows m v g i = tt
after_velocity_lem p at.FirstPosition h rows None v g i = absurd i.1
after_velocity_lem p at.FirstPosition h rows (Some m) v g i = (i.0, first_velocity rows m v g i.1)
after_velocity_lem p at.Position h rows m v g i = tt
after_velocity_lem p at.AwaitsVelocity h rows None v g i = absurd i.1
after_velocity_lem p at.AwaitsVelocity h rows (Some m) v g i = (i.0, awaited_velocity rows m v g i.1)
after_velocity_lem p at.Velocity h rows m v g i = tt
after_velocity_lem p at.End h rows m v g i = tt

pub after_comment_lem : (p : Part) (st : Stage) (h : Header) (rows : List Row) (m : Option Summary) → Held p st h rows m → HeldIf p (after_comment st) h rows m
after_comment_lem p at.Start h rows m i = tt
after_comment_lem p at.H1 h rows m i = i
after_comment_lem p at.H2 h rows m i = i
after_comment_lem p at.H3 h rows m i = i
after_comment_lem p at.H5 h rows m i = i
after_comment_lem p at.H9 h rows m i = i
after_comment_lem p at.FirstPosition h rows m i = i
after_comment_lem p at.Position h rows m i = i
after_comment_lem p at.AwaitsVelocity h rows m i = i
after_comment_lem p at.Velocity h rows m i = i
after_comment_lem p at.End h rows m i = tt

-- where the rows are whole
at_done : (p : Part) (st : Stage) (h : Header) (rows : List Row) (m : Option Summary) → rows_done st ≡ true → Held p st h rows m → GoodHeaderOf p h × GoodRows rows
at_done p at.Start h rows m e i = (let z = e in cc)
at_done p at.H1 h rows m e i = (let z = e in cc)
at_done p at.H2 h rows m e i = (let z = e in cc)
at_done p at.H3 h rows m e i = (let z = e in cc)
at_done p at.H5 h rows m e i = (let z = e in cc)
at_done p at.H9 h rows m e i = (let z = e in cc)
at_done p at.FirstPosition h rows None e i = absurd i.1
at_done p at.FirstPosition h rows (Some m) e i = (i.0, (first_whole rows m i.1).good)
at_done p at.Position h rows None e i = absurd i.1
at_done p at.Position h rows (Some m) e i = (i.0, i.1.good)
at_done p at.AwaitsVelocity h rows m e i = (let z = e in cc)
at_done p at.Velocity h rows None e i = absurd i.1
at_done p at.Velocity h rows (Some m) e i = (i.0, i.1.good)
at_done p at.End h rows m e i = (let z = e in cc)

pub after_trailer_lem : (p : Part) (st : Stage) (h : Header) (rows : List Row) (m : Option Summary) → Held p st h rows m → HeldIf p (after_trailer p st) h rows m
after_trailer_lem part.File st h rows m i = by (rows_done st) refl
  where
    by : (b : Bool) → b ≡ rows_done st → HeldIf part.File (cond b (Some at.End) None) h rows m
    by true e = at_done part.File st h rows m (sym e) i
    by false e = tt
after_trailer_lem part.Block st h rows m i = tt

-- a file ends after its trailer, a block after a whole row
abbrev pub ends_at : Part → Stage → Bool
ends_at part.File st = is_end st
ends_at part.Block st = rows_done st

file_end : (st : Stage) (h : Header) (rows : List Row) (m : Option Summary) → is_end st ≡ true → Held part.File st h rows m → GoodHeader h × GoodRows rows
file_end at.Start h rows m e i = (let z = e in cc)
file_end at.H1 h rows m e i = (let z = e in cc)
file_end at.H2 h rows m e i = (let z = e in cc)
file_end at.H3 h rows m e i = (let z = e in cc)
file_end at.H5 h rows m e i = (let z = e in cc)
file_end at.H9 h rows m e i = (let z = e in cc)
file_end at.FirstPosition h rows m e i = (let z = e in cc)
file_end at.Position h rows m e i = (let z = e in cc)
file_end at.AwaitsVelocity h rows m e i = (let z = e in cc)
file_end at.Velocity h rows m e i = (let z = e in cc)
file_end at.End h rows m e i = i

pub at_end : (p : Part) (st : Stage) (h : Header) (rows : List Row) (m : Option Summary) → ends_at p st ≡ true → Held p st h rows m → GoodHeaderOf p h × GoodRows rows
at_end part.File st h rows m e i = file_end st h rows m e i
at_end part.Block st h rows m e i = at_done part.Block st h rows m e i

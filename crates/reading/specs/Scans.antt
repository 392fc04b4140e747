use Rattle.std.specs.Prelude.{◌≡◌, ℕ, Bool, false, cond, List, [], drop, Some, None, Ok, Err, Option, Result, nat_le}
use Rattle.refusal.specs.declared.Refusal.{Refusal}
use Rattle.refusal.specs.declared.Refusal.TheVariants.{UnknownRecord, OutOfPlace, NotAfter, FlagChanges, TooManyRows}
use Rattle.calendar.specs.Instants.{moment}
use Rattle.model.specs.declared.Row.{Row}
use Rattle.model.specs.Flags.{allows}
use Rattle.model.specs.declared.header.Header.{Header}
use Rattle.cells.specs.declared.summary.Summary.{Summary}
use Rattle.cells.specs.Cells as cells
use Rattle.records.specs.declared.record.Record.{Record}
use Rattle.records.specs.declared.record.Record.TheVariants as rec
use Rattle.records.specs.declared.field.Value.{Value}
use Rattle.records.specs.Types.{is_comment, record_of}
use Rattle.records.specs.Reads.{read_record}
use Rattle.reading.specs.declared.build.Span.{Span}
use Rattle.reading.specs.declared.scan.Scan.{Scan}
use Rattle.reading.specs.declared.stage.Stage.{Stage}
use Rattle.reading.specs.declared.stage.Stage.TheVariants as at
use Rattle.reading.specs.declared.stage.Part.{Part}
use Rattle.reading.specs.declared.stage.Part.TheVariants as part
use Rattle.records.specs.Builds.{origin_of, satellite_of, accuracy_of, offset_of}
use Rattle.reading.specs.Builds.{span_of, row_of}
use Rattle.reading.specs.Order.{next_stage}

-- before the first line: a file begins with H1, a block with its rows
abbrev pub first_stage : Part → Stage
first_stage part.File = at.Start
first_stage part.Block = at.H9

abbrev pub started : Part → Option ℕ → Scan
started p room =
    record {
      part = p;
      room = room;
      stage = first_stage p;
      header = record { origin = origin_of []; satellite = satellite_of []; accuracy = None; offset = None };
      span = span_of [];
      summary = None;
    }

abbrev pub row_count : Scan → ℕ
row_count s = cells.count_in s.summary

abbrev pub is_full_at : Option ℕ → ℕ → Bool
is_full_at None n = false
is_full_at (Some room) n = nat_le room n

-- the order of rows, the leap flags, the room
abbrev pub room_refusal : ℕ → Scan → Result (Unit {0}) Refusal
room_refusal line s = cond (is_full_at s.room (row_count s)) (Err (TooManyRows line)) (Ok tt)

abbrev pub row_refusal_after : ℕ → Scan → Row → Option Summary → Result (Unit {0}) Refusal
row_refusal_after line s r None = room_refusal line s
row_refusal_after line s r (Some before) =
    cond (nat_le (moment r.at) (moment before.last)) (Err (NotAfter line))
    (cond (allows before.flag r.flag) (room_refusal line s) (Err (FlagChanges line)))

abbrev pub row_refusal : ℕ → Scan → Row → Result (Unit {0}) Refusal
row_refusal line s r = row_refusal_after line s r s.summary

abbrev pub with_row : Scan → Row → Scan
with_row s r = record { part = s.part; room = s.room; stage = s.stage; header = s.header; span = s.span; summary = Some (cells.summary_with s.summary r) }

abbrev pub with_header : Scan → Header → Span → Scan
with_header s h p = record { part = s.part; room = s.room; stage = s.stage; header = h; span = p; summary = s.summary }

abbrev pub with_stage : Stage → Scan → Scan
with_stage st s = record { part = s.part; room = s.room; stage = st; header = s.header; span = s.span; summary = s.summary }

abbrev pub on_ok : Result (Unit {0}) Refusal → Scan → Result Scan Refusal
on_ok (Ok u) s = Ok s
on_ok (Err e) s = Err e

-- a record's values taken
abbrev pub taken : ℕ → Scan → Record → List Value → Result Scan Refusal
taken line s rec.H1 vs = Ok (with_header s (record { origin = origin_of vs; satellite = s.header.satellite; accuracy = s.header.accuracy; offset = s.header.offset }) s.span)
taken line s rec.H2 vs = Ok (with_header s (record { origin = s.header.origin; satellite = satellite_of vs; accuracy = s.header.accuracy; offset = s.header.offset }) (span_of vs))
taken line s rec.H3 vs = Ok (with_header s (record { origin = s.header.origin; satellite = s.header.satellite; accuracy = Some (accuracy_of vs); offset = s.header.offset }) s.span)
taken line s rec.H5 vs = Ok (with_header s (record { origin = s.header.origin; satellite = s.header.satellite; accuracy = s.header.accuracy; offset = Some (offset_of vs) }) s.span)
taken line s rec.H9 vs = Ok s
taken line s rec.Position vs = on_ok (row_refusal line s (row_of vs)) (with_row s (row_of vs))
taken line s rec.Velocity vs = Ok s
taken line s rec.Comment vs = Ok s
taken line s rec.Trailer vs = Ok s

abbrev pub at_stage : Stage → Result Scan Refusal → Result Scan Refusal
at_stage st (Ok s) = Ok (with_stage st s)
at_stage st (Err e) = Err e

abbrev pub taken_if : ℕ → Scan → Record → Result (List Value) Refusal → Result Scan Refusal
taken_if line s t (Err e) = Err e
taken_if line s t (Ok vs) = taken line s t vs

-- what follows the record's type; a comment's text is not looked at
abbrev pub content_step : ℕ → Scan → Record → List ℕ → Result Scan Refusal
content_step line s t rest = cond (is_comment t) (Ok s) (taken_if line s t (read_record line t rest))

abbrev pub by_stage : ℕ → List ℕ → Scan → Record → Option Stage → Result Scan Refusal
by_stage line text s t None = Err (OutOfPlace line)
by_stage line text s t (Some st) = at_stage st (content_step line s t (drop 2 text))

abbrev pub by_record : ℕ → List ℕ → Scan → Option Record → Result Scan Refusal
by_record line text s None = Err (UnknownRecord line)
by_record line text s (Some t) = by_stage line text s t (next_stage s.part s.stage t)

-- one line more: its type, its place, its words, and for a row the rules for rows
abbrev pub line_step : ℕ → List ℕ → Scan → Result Scan Refusal
line_step line text s = by_record line text s (record_of text)

-- what a step answers, and what it leaves
abbrev pub Stepped : Result (Unit {0}) Refusal → Result Scan Refusal → Scan → Scan → Type 0
Stepped (Ok u) told before after = told ≡ Ok after
Stepped (Err e) told before after = (told ≡ Err e) × (after ≡ before)

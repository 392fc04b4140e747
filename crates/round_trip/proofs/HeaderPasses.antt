-- How a reader passes a header.
use Rattle.std.proofs.Common.{◌≡◌, ℕ, [], Some, None, Ok, Option, refl, ap, subst}
use Rattle.cells.specs.declared.summary.Cells.{Cells}
use Rattle.cells.specs.declared.summary.Summary.{Summary}
use Rattle.model.specs.declared.header.Header.{Header}
use Rattle.model.specs.declared.header.Origin.{Origin}
use Rattle.model.specs.declared.header.Satellite.{Satellite}
use Rattle.model.specs.declared.header.Accuracy.{Accuracy}
use Rattle.model.specs.declared.header.Offset.{Offset}
use Rattle.records.specs.declared.record.Record.TheVariants as rec
use Rattle.reading.specs.declared.build.Span.{Span}
use Rattle.reading.specs.declared.scan.Scan.{Scan}
use Rattle.reading.specs.declared.stage.Stage.{Stage}
use Rattle.reading.specs.declared.stage.Stage.TheVariants as at
use Rattle.reading.specs.declared.stage.Part.TheVariants as part
use Rattle.records.specs.Builds.{satellite_of}
use Rattle.reading.specs.Builds.{span_of}
use Rattle.reading.specs.Order.{after_h9}
use Rattle.reading.specs.Scans.{started}
use Rattle.writing.specs.Texts.{record_text}
use Rattle.writing.specs.Values.{origin_values, satellite_values, accuracy_values, offset_values}
use Rattle.writing.specs.Files.{accuracy_text, offset_text, header_text}
use Rattle.writing.proofs.FileLaws.{header_is}
use Rattle.round_trip.specs.Goods.{GoodValues}
use Rattle.round_trip.specs.Contents.{GoodAccuracyIf, GoodOffsetIf, GoodHeader}
use Rattle.round_trip.proofs.Passes.{Passes, none_good, passes_none, passes_both, passes_record}
use Rattle.round_trip.proofs.BuildLaws.{origin_back, accuracy_back}
use Rattle.round_trip.proofs.SpanLaws.{GoodCells, good_h2}

abbrev pub state_of : ℕ → Stage → Header → Span → Option Summary → Scan
state_of room st h p m = record { part = part.File; room = Some room; stage = st; header = h; span = p; summary = m }

abbrev header_of : Origin → Satellite → Option Accuracy → Option Offset → Header
header_of o s a f = record { origin = o; satellite = s; accuracy = a; offset = f }

-- the stage after H3, and that after H5
abbrev past_accuracy : Option Accuracy → Stage
past_accuracy None = at.H2
past_accuracy (Some a) = at.H3

abbrev past_offset : Option Accuracy → Option Offset → Stage
past_offset a None = past_accuracy a
past_offset a (Some o) = at.H5

module _ (room : ℕ) where
  abbrev header_state : Stage → Origin → Satellite → Option Accuracy → Option Offset → Span → Scan
  header_state st o s a f p = state_of room st (header_of o s a f) p None

  origin_pass : (o : Origin) → GoodValues rec.H1 (origin_values o)
      → Passes (record_text rec.H1 (origin_values o)) 56 (started part.File (Some room)) [] (header_state at.H1 o (satellite_of []) None None (span_of [])) []
  origin_pass o g =
      passes_record rec.H1 (origin_values o) g (started part.File (Some room)) (header_state at.Start o (satellite_of []) None None (span_of [])) at.H1 [] [] refl refl
      (λ n. ap (λ x. Ok (header_state at.Start x (satellite_of []) None None (span_of []))) (origin_back o)) refl

  satellite_pass : (o : Origin) (s : Satellite) (c : Cells) → GoodValues rec.H2 (satellite_values s c)
      → Passes (record_text rec.H2 (satellite_values s c)) 86 (header_state at.H1 o (satellite_of []) None None (span_of [])) [] (header_state at.H2 o s None None (span_of (satellite_values s c))) []
  satellite_pass o s c g =
      passes_record rec.H2 (satellite_values s c) g (header_state at.H1 o (satellite_of []) None None (span_of [])) (header_state at.H1 o s None None (span_of (satellite_values s c))) at.H2 [] [] refl refl
      (λ n. refl) refl

  module _ (o : Origin) (s : Satellite) (p : Span) where
    accuracy_pass : (a : Option Accuracy) → GoodAccuracyIf a → Passes (accuracy_text a) 66 (header_state at.H2 o s None None p) [] (header_state (past_accuracy a) o s a None p) []
    accuracy_pass None g = passes_none 66 (header_state at.H2 o s None None p) []
    accuracy_pass (Some a) g =
        passes_record rec.H3 (accuracy_values a) g.values (header_state at.H2 o s None None p) (header_state at.H2 o s (Some a) None p) at.H3 [] [] refl refl
        (λ n. ap (λ x. Ok (header_state at.H2 o s (Some x) None p)) (accuracy_back a g.nine)) refl

    offset_place : (a : Option Accuracy) (f : Offset) → GoodValues rec.H5 (offset_values f) → Passes (record_text rec.H5 (offset_values f)) 11 (header_state (past_accuracy a) o s a None p) [] (header_state at.H5 o s a (Some f) p) []
    offset_place None f g = passes_record rec.H5 (offset_values f) g (header_state at.H2 o s None None p) (header_state at.H2 o s None (Some f) p) at.H5 [] [] refl refl (λ n. refl) refl
    offset_place (Some a) f g = passes_record rec.H5 (offset_values f) g (header_state at.H3 o s (Some a) None p) (header_state at.H3 o s (Some a) (Some f) p) at.H5 [] [] refl refl (λ n. refl) refl

    offset_pass : (a : Option Accuracy) (f : Option Offset) → GoodOffsetIf f → Passes (offset_text f) 11 (header_state (past_accuracy a) o s a None p) [] (header_state (past_offset a f) o s a f p) []
    offset_pass a None g = passes_none 11 (header_state (past_accuracy a) o s a None p) []
    offset_pass a (Some f) g = offset_place a f g

    end_place : (st : Stage) (a : Option Accuracy) (f : Option Offset) → after_h9 st ≡ Some at.H9 → Passes (record_text rec.H9 []) 3 (header_state st o s a f p) [] (header_state at.H9 o s a f p) []
    end_place st a f e = passes_record rec.H9 [] (none_good rec.H9 refl) (header_state st o s a f p) (header_state st o s a f p) at.H9 [] [] refl e (λ n. refl) refl

    end_pass : (a : Option Accuracy) (f : Option Offset) → Passes (record_text rec.H9 []) 3 (header_state (past_offset a f) o s a f p) [] (header_state at.H9 o s a f p) []
    end_pass None None = end_place at.H2 None None refl
    end_pass (Some a) None = end_place at.H3 (Some a) None refl
    end_pass a (Some f) = end_place at.H5 a (Some f) refl

  -- the header of good cells
  pub header_pass : (h : Header) (c : Cells) → GoodHeader h → GoodCells c → Passes (header_text h c) 222 (started part.File (Some room)) [] (state_of room at.H9 h (span_of (satellite_values h.satellite c)) None) []
  header_pass h c g k =
      let o = h.origin in
      let s = h.satellite in
      let p = span_of (satellite_values s c) in
      let a = h.accuracy in
      let f = h.offset in
      subst (λ t. Passes t 222 (started part.File (Some room)) [] (state_of room at.H9 h p None) []) (header_is h c)
      (passes_both _ _ 56 166 _ _ _ _ _ _ (origin_pass o g.origin)
      (passes_both _ _ 86 80 _ _ _ _ _ _ (satellite_pass o s c (good_h2 s c k g.satellite))
      (passes_both _ _ 66 14 _ _ _ _ _ _ (accuracy_pass o s p a g.accuracy)
      (passes_both _ _ 11 3 _ _ _ _ _ _ (offset_pass o s p a f g.offset) (end_pass o s p a f)))))

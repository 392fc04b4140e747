-- How a reader passes rows.
use Rattle.std.proofs.Common.{◌≡◌, ℕ, ◌+◌, ◌*◌, ◌<◌, ◌≤◌, Bool, true, false, leb, List, [], ◌∷◌, ◌++◌, length, Some, None, Ok, Option, sym, refl, ap, ◌∙◌, subst, append_assoc, append-nil, arith}
use Rattle.std.specs.List.{AllByRecursion}
use Rattle.std.proofs.lemmas.Bool.{lt-leb}
use Rattle.calendar.specs.Instants.{moment}
use Rattle.cells.specs.declared.summary.Summary.{Summary}
use Rattle.cells.specs.Cells.{extended, extended_by, summary_with}
use Rattle.cells.specs.Cells as cells
use Rattle.model.specs.declared.Row.{Row}
use Rattle.model.specs.declared.Vector.{Vector}
use Rattle.model.specs.Flags.{allows}
use Rattle.model.specs.declared.header.Header.{Header}
use Rattle.records.specs.declared.record.Record.TheVariants as rec
use Rattle.reading.specs.declared.build.Span.{Span}
use Rattle.reading.specs.declared.scan.Scan.{Scan}
use Rattle.reading.specs.declared.stage.Stage.{Stage}
use Rattle.reading.specs.declared.stage.Stage.TheVariants as at
use Rattle.reading.specs.Order.{after_position, after_velocity, rows_done}
use Rattle.reading.specs.Scans.{row_refusal, with_row, on_ok}
use Rattle.reading.specs.Stores.{with_velocity, completed}
use Rattle.writing.specs.Texts.{record_text}
use Rattle.writing.specs.Values.{position_values, velocity_values}
use Rattle.writing.specs.Files.{velocity_text, row_text, rows_text}
use Rattle.writing.proofs.FileLaws.{row_is}
use Rattle.round_trip.specs.Goods.{GoodValues}
use Rattle.round_trip.specs.Contents.{GoodVelocityIf, GoodRow, is_some, has_velocity, Follows, InOrder, GoodRows}
use Rattle.round_trip.proofs.Passes.{Passes, passes_none, passes_both, passes_record}
use Rattle.round_trip.proofs.BuildLaws.{bare, row_back}
use Rattle.round_trip.proofs.HeaderPasses.{state_of}

pub completed_push : (rs : List Row) (r : Row) (v : Vector) → completed (rs ++ (r ∷ [])) v ≡ rs ++ (with_velocity r v ∷ [])
completed_push [] r v = refl
completed_push (x ∷ []) r v = refl
completed_push (x ∷ (y ∷ rs)) r v = ap (λ l. x ∷ l) (completed_push (y ∷ rs) r v)

bare_summary : (m : Option Summary) (r : Row) → summary_with m (bare r) ≡ summary_with m r
bare_summary None r = refl
bare_summary (Some m) r = refl

-- the stage after a position, and after the row, where rows have velocities or not
abbrev mid_stage : Bool → Stage
mid_stage true = at.AwaitsVelocity
mid_stage false = at.Position

abbrev row_stage : Bool → Stage
row_stage true = at.Velocity
row_stage false = at.Position

abbrev Moves : Option Vector → Stage → Stage → Type 0
Moves None mid after = mid ≡ after
Moves (Some v) mid after = after_velocity mid ≡ Some after

-- a stage after whole rows
pub record Between (b : Bool) (st : Stage) : Type 0 where
  pub next : after_position st ≡ Some (mid_stage b)
  pub done : rows_done st ≡ true

between_rows : (b : Bool) → Between b (row_stage b)
between_rows true = record { next = refl; done = refl }
between_rows false = record { next = refl; done = refl }

moves_on : (v : Option Vector) → Moves v (mid_stage (is_some v)) (row_stage (is_some v))
moves_on None = refl
moves_on (Some v) = refl

-- the stage after the first row
abbrev first_stage : Bool → Stage
first_stage true = at.Velocity
first_stage false = at.FirstPosition

first_moves : (v : Option Vector) → Moves v at.FirstPosition (first_stage (is_some v))
first_moves None = refl
first_moves (Some v) = refl

between_first : (b : Bool) → Between b (first_stage b)
between_first true = record { next = refl; done = refl }
between_first false = record { next = refl; done = refl }

-- at most 147 bytes a row
abbrev pub rows_room : List Row → ℕ
rows_room [] = 0
rows_room (r ∷ rs) = 147 + rows_room rs

pub rows_room_lem : (rs : List Row) → rows_room rs ≡ 147 * length rs
rows_room_lem [] = refl
rows_room_lem (r ∷ rs) = omega (arith, rows_room_lem rs)

module _ (room : ℕ) (h : Header) (p : Span) where
  abbrev row_state : Stage → Option Summary → Scan
  row_state st m = state_of room st h p m

  position_pass : (st mid : Stage) (m : Option Summary) (rows : List Row) (r : Row) → GoodValues rec.Position (position_values r) → after_position st ≡ Some mid → ((n : ℕ) → row_refusal n (row_state st m) (bare r) ≡ Ok tt)
      → Passes (record_text rec.Position (position_values r)) 82 (row_state st m) rows (row_state mid (Some (summary_with m r))) (rows ++ (bare r ∷ []))
  position_pass st mid m rows r g place takes =
      passes_record rec.Position (position_values r) g (row_state st m) (row_state st (Some (summary_with m r))) mid rows (rows ++ (bare r ∷ [])) refl place
      (λ n. ap (λ x. on_ok (row_refusal n (row_state st m) x) (with_row (row_state st m) x)) (row_back r) ∙ ap (λ a. on_ok a (with_row (row_state st m) (bare r))) (takes n) ∙ ap (λ x. Ok (row_state st (Some x))) (bare_summary m r))
      (ap (λ x. rows ++ (x ∷ [])) (row_back r))

  -- a row is its position and, where it has one, its velocity
  abbrev with_v : Row → Option Vector → Row
  with_v r v = record { at = r.at; flag = r.flag; position = r.position; velocity = v }

  velocity_pass : (v : Option Vector) (mid after : Stage) (m : Option Summary) (rows : List Row) (r : Row) → GoodVelocityIf v → Moves v mid after
      → Passes (velocity_text v) 65 (row_state mid m) (rows ++ (bare r ∷ [])) (row_state after m) (rows ++ (with_v r v ∷ []))
  velocity_pass None mid after m rows r g e = subst (λ st. Passes [] 65 (row_state mid m) (rows ++ (bare r ∷ [])) (row_state st m) (rows ++ (bare r ∷ []))) e (passes_none 65 (row_state mid m) (rows ++ (bare r ∷ [])))
  velocity_pass (Some v) mid after m rows r g e =
      passes_record rec.Velocity (velocity_values v) g (row_state mid m) (row_state mid m) after (rows ++ (bare r ∷ [])) (rows ++ (with_v r (Some v) ∷ [])) refl e (λ n. refl) (completed_push rows (bare r) v)

  row_pass : (st mid after : Stage) (m : Option Summary) (rows : List Row) (r : Row) → GoodRow r → after_position st ≡ Some mid → Moves r.velocity mid after → ((n : ℕ) → row_refusal n (row_state st m) (bare r) ≡ Ok tt)
      → Passes (row_text r) 147 (row_state st m) rows (row_state after (Some (summary_with m r))) (rows ++ (r ∷ []))
  row_pass st mid after m rows r g place moves takes =
      subst (λ t. Passes t 147 (row_state st m) rows (row_state after (Some (summary_with m r))) (rows ++ (r ∷ []))) (row_is r)
      (passes_both _ _ 82 65 _ _ _ _ _ _ (position_pass st mid m rows r g.position place takes) (velocity_pass r.velocity mid after (Some (summary_with m r)) rows r g.velocity moves))

  -- the rows of a text, to a stage after whole rows
  pub record RowsPass (text : List ℕ) (k : ℕ) (s : Scan) (rows : List Row) (m : Summary) (last : List Row) : Type 0 where
    pub stage : Stage
    pub done : rows_done stage ≡ true
    pub passes : Passes text k s rows (row_state stage (Some m)) last

  takes_later : (st : Stage) (m : Summary) (r s : Row) → m.last ≡ r.at → m.flag ≡ r.flag → m.count < room → Follows r s → (n : ℕ) → row_refusal n (row_state st (Some m)) (bare s) ≡ Ok tt
  takes_later st m r s at flag small f n =
      let a : leb (moment s.at) (moment m.last) ≡ false = lt-leb (moment s.at) (moment m.last) (omega (arith, ap moment at, f.later)) in
      let b : allows m.flag s.flag ≡ true = ap (λ x. allows x s.flag) flag ∙ f.flag in
      let c : leb room m.count ≡ false = lt-leb room m.count small in
      rw (a, b, c)

  rest_pass : (rs : List Row) (r : Row) (st : Stage) (m : Summary) (rows : List Row) → Between (has_velocity r) st → m.last ≡ r.at → m.flag ≡ r.flag → m.count + length rs ≤ room → AllByRecursion GoodRow rs → InOrder r rs
      → RowsPass (rows_text rs) (rows_room rs) (row_state st (Some m)) rows (extended_by m rs) (rows ++ rs)
  unfolding rows_text
  rest_pass [] r st m rows b at flag fits g o =
      record { stage = st; done = b.done; passes = subst (λ l. Passes [] 0 (row_state st (Some m)) rows (row_state st (Some m)) l) (sym (append-nil rows)) (passes_none 0 (row_state st (Some m)) rows) }
  rest_pass (s ∷ rs) r st m rows b at flag fits g o =
      let f = o.0 in
      let place : after_position st ≡ Some (mid_stage (has_velocity s)) = b.next ∙ ap (λ x. Some (mid_stage x)) (sym f.velocity) in
      let one = row_pass st (mid_stage (has_velocity s)) (row_stage (has_velocity s)) (Some m) rows s g.0 place (moves_on s.velocity) (takes_later st m r s at flag (omega arith) f) in
      let next = rest_pass rs s (row_stage (has_velocity s)) (extended m s) (rows ++ (s ∷ [])) (between_rows (has_velocity s)) refl refl (omega arith) g.1 o.1 in
      record {
        stage = next.stage;
        done = next.done;
        passes = subst (λ l. Passes (row_text s ++ rows_text rs) (147 + rows_room rs) (row_state st (Some m)) rows (row_state next.stage (Some (extended_by (extended m s) rs))) l) (append_assoc rows (s ∷ []) rs) (passes_both _ _ 147 (rows_room rs) _ _ _ _ _ _ one next.passes);
      }

  pub all_pass : (r : Row) (rs : List Row) → length (r ∷ rs) ≤ room → GoodRows (r ∷ rs) → RowsPass (rows_text (r ∷ rs)) (rows_room (r ∷ rs)) (row_state at.H9 None) [] (extended_by (cells.started r) rs) (r ∷ rs)
  unfolding rows_text
  all_pass r rs fits g =
      let c : leb room 0 ≡ false = lt-leb room 0 (omega arith) in
      let one = row_pass at.H9 at.FirstPosition (first_stage (has_velocity r)) None [] r g.0.0 refl (first_moves r.velocity) (λ n. rw c) in
      let next = rest_pass rs r (first_stage (has_velocity r)) (cells.started r) (r ∷ []) (between_first (has_velocity r)) refl refl (omega arith) g.0.1 g.1 in
      record { stage = next.stage; done = next.done; passes = passes_both _ _ 147 (rows_room rs) _ _ _ _ _ _ one next.passes }

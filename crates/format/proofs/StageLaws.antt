-- Which record takes a file or a block from which stage to which.
use Rattle.std.proofs.Common.{◌≡◌, ℕ, Bool, true, false, cond, Some, None, Option, sym, refl, ap, ◌∙◌, subst}
use Rattle.records.specs.declared.record.Record.{Record}
use Rattle.records.specs.declared.record.Record.TheVariants as rec
use Rattle.records.specs.Types.{is_comment}
use Rattle.reading.specs.declared.stage.Stage.{Stage}
use Rattle.reading.specs.declared.stage.Stage.TheVariants as at
use Rattle.reading.specs.declared.stage.Part.{Part}
use Rattle.reading.specs.declared.stage.Part.TheVariants.{File}
use Rattle.reading.specs.Order.{after_h1, after_h2, after_h3, after_h5, after_h9, after_position, after_velocity, after_comment, next_stage}
use Rattle.reading.specs.Ends.{is_end}

by_record_lem : (P : Record → Type 0) → P rec.H1 → P rec.H2 → P rec.H3 → P rec.H5 → P rec.H9 → P rec.Position → P rec.Velocity → P rec.Comment → P rec.Trailer → (t : Record) → P t
by_record_lem P a b c d e f g h i rec.H1 = a
by_record_lem P a b c d e f g h i rec.H2 = b
by_record_lem P a b c d e f g h i rec.H3 = c
by_record_lem P a b c d e f g h i rec.H5 = d
by_record_lem P a b c d e f g h i rec.H9 = e
by_record_lem P a b c d e f g h i rec.Position = f
by_record_lem P a b c d e f g h i rec.Velocity = g
by_record_lem P a b c d e f g h i rec.Comment = h
by_record_lem P a b c d e f g h i rec.Trailer = i

by_stage_lem : (P : Stage → Type 0) → P at.Start → P at.H1 → P at.H2 → P at.H3 → P at.H5 → P at.H9 → P at.FirstPosition → P at.Position → P at.AwaitsVelocity → P at.Velocity → P at.End → (st : Stage) → P st
by_stage_lem P a b c d e f g h i j k at.Start = a
by_stage_lem P a b c d e f g h i j k at.H1 = b
by_stage_lem P a b c d e f g h i j k at.H2 = c
by_stage_lem P a b c d e f g h i j k at.H3 = d
by_stage_lem P a b c d e f g h i j k at.H5 = e
by_stage_lem P a b c d e f g h i j k at.H9 = f
by_stage_lem P a b c d e f g h i j k at.FirstPosition = g
by_stage_lem P a b c d e f g h i j k at.Position = h
by_stage_lem P a b c d e f g h i j k at.AwaitsVelocity = i
by_stage_lem P a b c d e f g h i j k at.Velocity = j
by_stage_lem P a b c d e f g h i j k at.End = k

-- neither a comment nor the trailer
abbrev pub is_inner : Record → Bool
is_inner rec.H1 = true
is_inner rec.H2 = true
is_inner rec.H3 = true
is_inner rec.H5 = true
is_inner rec.H9 = true
is_inner rec.Position = true
is_inner rec.Velocity = true
is_inner rec.Comment = false
is_inner rec.Trailer = false

pub data Kind (t : Record) : Type 0 where
  comment : t ≡ rec.Comment → Kind t
  trailer : t ≡ rec.Trailer → Kind t
  inner : is_inner t ≡ true → Kind t

pub kind_of_lem : (t : Record) → Kind t
kind_of_lem = by_record_lem Kind (inner refl) (inner refl) (inner refl) (inner refl) (inner refl) (inner refl) (inner refl) (comment refl) (trailer refl)

pub inner_says : (t : Record) → is_inner t ≡ true → is_comment t ≡ false
inner_says = by_record_lem (λ t. is_inner t ≡ true → is_comment t ≡ false) (λ i. refl) (λ i. refl) (λ i. refl) (λ i. refl) (λ i. refl) (λ i. refl) (λ i. refl) (λ i. cc) (λ i. refl)

-- after H1 and before the trailer
abbrev pub is_open : Stage → Bool
is_open at.Start = false
is_open at.H1 = true
is_open at.H2 = true
is_open at.H3 = true
is_open at.H5 = true
is_open at.H9 = true
is_open at.FirstPosition = true
is_open at.Position = true
is_open at.AwaitsVelocity = true
is_open at.Velocity = true
is_open at.End = false

abbrev opens : Option Stage → Bool
opens None = true
opens (Some st) = is_open st

inner_opens : (q : Part) (t : Record) → is_inner t ≡ true → (st : Stage) → opens (next_stage q st t) ≡ true
inner_opens q rec.H1 i = by_stage_lem (λ z. opens (after_h1 z) ≡ true) refl refl refl refl refl refl refl refl refl refl refl
inner_opens q rec.H2 i = by_stage_lem (λ z. opens (after_h2 z) ≡ true) refl refl refl refl refl refl refl refl refl refl refl
inner_opens q rec.H3 i = by_stage_lem (λ z. opens (after_h3 z) ≡ true) refl refl refl refl refl refl refl refl refl refl refl
inner_opens q rec.H5 i = by_stage_lem (λ z. opens (after_h5 z) ≡ true) refl refl refl refl refl refl refl refl refl refl refl
inner_opens q rec.H9 i = by_stage_lem (λ z. opens (after_h9 z) ≡ true) refl refl refl refl refl refl refl refl refl refl refl
inner_opens q rec.Position i = by_stage_lem (λ z. opens (after_position z) ≡ true) refl refl refl refl refl refl refl refl refl refl refl
inner_opens q rec.Velocity i = by_stage_lem (λ z. opens (after_velocity z) ≡ true) refl refl refl refl refl refl refl refl refl refl refl
inner_opens q rec.Comment i = cc
inner_opens q rec.Trailer i = cc

pub goes_open : (q : Part) (t : Record) (st next : Stage) → is_inner t ≡ true → next_stage q st t ≡ Some next → is_open next ≡ true
goes_open q t st next i e = ap opens (sym e) ∙ inner_opens q t i st

pub comment_stays : (st : Stage) → is_open st ≡ true → after_comment st ≡ Some st
comment_stays =
    by_stage_lem (λ z. is_open z ≡ true → after_comment z ≡ Some z) (λ o. cc) (λ o. refl) (λ o. refl) (λ o. refl) (λ o. refl) (λ o. refl) (λ o. refl) (λ o. refl) (λ o. refl) (λ o. refl) (λ o. cc)

pub open_not_end : (st : Stage) → is_open st ≡ true → is_end st ≡ true → ◌≡◌ {A = ℕ} 0 1
open_not_end =
    by_stage_lem (λ z. is_open z ≡ true → is_end z ≡ true → ◌≡◌ {A = ℕ} 0 1) (λ o e. cc) (λ o e. cc) (λ o e. cc) (λ o e. cc) (λ o e. cc) (λ o e. cc) (λ o e. cc) (λ o e. cc) (λ o e. cc) (λ o e. cc) (λ o e. cc)

-- nothing follows the trailer
pub from_end : (t : Record) (st : Stage) → next_stage File at.End t ≡ Some st → ◌≡◌ {A = ℕ} 0 1
from_end = by_record_lem (λ t. (st : Stage) → next_stage File at.End t ≡ Some st → ◌≡◌ {A = ℕ} 0 1) (λ st e. cc) (λ st e. cc) (λ st e. cc) (λ st e. cc) (λ st e. cc) (λ st e. cc) (λ st e. cc) (λ st e. cc) (λ st e. cc)

pub trailer_place : (b : Bool) (st : Stage) → cond b (Some at.End) None ≡ Some st → (b ≡ true) × (st ≡ at.End)
trailer_place true st e = (refl, cc)
trailer_place false st e = cc

-- what may come at a stage
module _ (P : Record → Stage → Type 0) where
  to : (t : Record) (st next : Stage) → Some next ≡ Some st → P t next → P t st
  to t st next e p = let w : next ≡ st = cc in subst (P t) w p

  pub from_start : P rec.H1 at.H1 → (t : Record) (st : Stage) → next_stage File at.Start t ≡ Some st → P t st
  from_start p =
      by_record_lem (λ t. (st : Stage) → next_stage File at.Start t ≡ Some st → P t st)
      (λ st e. to rec.H1 st at.H1 e p) (λ st e. cc) (λ st e. cc) (λ st e. cc) (λ st e. cc) (λ st e. cc) (λ st e. cc) (λ st e. cc) (λ st e. cc)

module _ (q : Part) (P : Record → Stage → Type 0) where
  pub from_h1 : P rec.H2 at.H2 → (t : Record) (st : Stage) → is_inner t ≡ true → next_stage q at.H1 t ≡ Some st → P t st
  from_h1 p =
      by_record_lem (λ t. (st : Stage) → is_inner t ≡ true → next_stage q at.H1 t ≡ Some st → P t st)
      (λ st i e. cc) (λ st i e. to P rec.H2 st at.H2 e p) (λ st i e. cc) (λ st i e. cc) (λ st i e. cc) (λ st i e. cc) (λ st i e. cc) (λ st i e. cc) (λ st i e. cc)

  pub from_h2 : P rec.H3 at.H3 → P rec.H5 at.H5 → P rec.H9 at.H9 → (t : Record) (st : Stage) → is_inner t ≡ true → next_stage q at.H2 t ≡ Some st → P t st
  from_h2 p f r =
      by_record_lem (λ t. (st : Stage) → is_inner t ≡ true → next_stage q at.H2 t ≡ Some st → P t st)
      (λ st i e. cc) (λ st i e. cc) (λ st i e. to P rec.H3 st at.H3 e p) (λ st i e. to P rec.H5 st at.H5 e f) (λ st i e. to P rec.H9 st at.H9 e r) (λ st i e. cc) (λ st i e. cc) (λ st i e. cc) (λ st i e. cc)

  pub from_h3 : P rec.H5 at.H5 → P rec.H9 at.H9 → (t : Record) (st : Stage) → is_inner t ≡ true → next_stage q at.H3 t ≡ Some st → P t st
  from_h3 f r =
      by_record_lem (λ t. (st : Stage) → is_inner t ≡ true → next_stage q at.H3 t ≡ Some st → P t st)
      (λ st i e. cc) (λ st i e. cc) (λ st i e. cc) (λ st i e. to P rec.H5 st at.H5 e f) (λ st i e. to P rec.H9 st at.H9 e r) (λ st i e. cc) (λ st i e. cc) (λ st i e. cc) (λ st i e. cc)

  pub from_h5 : P rec.H9 at.H9 → (t : Record) (st : Stage) → is_inner t ≡ true → next_stage q at.H5 t ≡ Some st → P t st
  from_h5 r =
      by_record_lem (λ t. (st : Stage) → is_inner t ≡ true → next_stage q at.H5 t ≡ Some st → P t st)
      (λ st i e. cc) (λ st i e. cc) (λ st i e. cc) (λ st i e. cc) (λ st i e. to P rec.H9 st at.H9 e r) (λ st i e. cc) (λ st i e. cc) (λ st i e. cc) (λ st i e. cc)

  pub from_h9 : P rec.Position at.FirstPosition → (t : Record) (st : Stage) → is_inner t ≡ true → next_stage q at.H9 t ≡ Some st → P t st
  from_h9 p =
      by_record_lem (λ t. (st : Stage) → is_inner t ≡ true → next_stage q at.H9 t ≡ Some st → P t st)
      (λ st i e. cc) (λ st i e. cc) (λ st i e. cc) (λ st i e. cc) (λ st i e. cc) (λ st i e. to P rec.Position st at.FirstPosition e p) (λ st i e. cc) (λ st i e. cc) (λ st i e. cc)

  pub from_first : P rec.Position at.Position → P rec.Velocity at.Velocity → (t : Record) (st : Stage) → is_inner t ≡ true → next_stage q at.FirstPosition t ≡ Some st → P t st
  from_first p v =
      by_record_lem (λ t. (st : Stage) → is_inner t ≡ true → next_stage q at.FirstPosition t ≡ Some st → P t st)
      (λ st i e. cc) (λ st i e. cc) (λ st i e. cc) (λ st i e. cc) (λ st i e. cc) (λ st i e. to P rec.Position st at.Position e p) (λ st i e. to P rec.Velocity st at.Velocity e v) (λ st i e. cc) (λ st i e. cc)

  pub from_position : P rec.Position at.Position → (t : Record) (st : Stage) → is_inner t ≡ true → next_stage q at.Position t ≡ Some st → P t st
  from_position p =
      by_record_lem (λ t. (st : Stage) → is_inner t ≡ true → next_stage q at.Position t ≡ Some st → P t st)
      (λ st i e. cc) (λ st i e. cc) (λ st i e. cc) (λ st i e. cc) (λ st i e. cc) (λ st i e. to P rec.Position st at.Position e p) (λ st i e. cc) (λ st i e. cc) (λ st i e. cc)

  pub from_velocity : P rec.Position at.AwaitsVelocity → (t : Record) (st : Stage) → is_inner t ≡ true → next_stage q at.Velocity t ≡ Some st → P t st
  from_velocity p =
      by_record_lem (λ t. (st : Stage) → is_inner t ≡ true → next_stage q at.Velocity t ≡ Some st → P t st)
      (λ st i e. cc) (λ st i e. cc) (λ st i e. cc) (λ st i e. cc) (λ st i e. cc) (λ st i e. to P rec.Position st at.AwaitsVelocity e p) (λ st i e. cc) (λ st i e. cc) (λ st i e. cc)

  pub from_awaiting : P rec.Velocity at.Velocity → (t : Record) (st : Stage) → is_inner t ≡ true → next_stage q at.AwaitsVelocity t ≡ Some st → P t st
  from_awaiting p =
      by_record_lem (λ t. (st : Stage) → is_inner t ≡ true → next_stage q at.AwaitsVelocity t ≡ Some st → P t st)
      (λ st i e. cc) (λ st i e. cc) (λ st i e. cc) (λ st i e. cc) (λ st i e. cc) (λ st i e. cc) (λ st i e. to P rec.Velocity st at.Velocity e p) (λ st i e. cc) (λ st i e. cc)

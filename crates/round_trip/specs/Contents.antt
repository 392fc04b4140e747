-- Headers and rows that a file can have.
use Rattle.std.specs.Prelude.{◌≡◌, ◌<◌, Bool, true, false, List, [], ◌∷◌, length, ℤ, Some, None, Option}
use Rattle.std.specs.List.{AllByRecursion}
use Rattle.calendar.specs.Instants.{moment}
use Rattle.model.specs.declared.Row.{Row}
use Rattle.model.specs.declared.Vector.{Vector}
use Rattle.model.specs.Flags.{allows}
use Rattle.model.specs.declared.header.Header.{Header}
use Rattle.model.specs.declared.header.Satellite.{Satellite}
use Rattle.model.specs.declared.header.Accuracy.{Accuracy}
use Rattle.model.specs.declared.header.Offset.{Offset}
use Rattle.records.specs.declared.field.Field.{Field}
use Rattle.records.specs.declared.record.Record.TheVariants.{H1, H3, H5, Position, Velocity}
use Rattle.records.specs.Fields.{in_bounds}
use Rattle.records.specs.Tables as table
use Rattle.writing.specs.Values.{origin_values, accuracy_values, offset_values, position_values, velocity_values}
use Rattle.round_trip.specs.Goods.{GoodValues}

abbrev pub Inside : Field → ℤ → Type 0
Inside f v = in_bounds f v ≡ true

-- what H2 holds apart from the span of the rows lies within the bounds of its fields
pub record GoodSatellite (s : Satellite) : Type 0 where
  pub ilrs_number : Inside table.ilrs_number s.ilrs_number
  pub sic : Inside table.sic s.sic
  pub norad_number : Inside table.norad_number s.norad_number
  pub tiv_compatible : Inside table.one_digit s.tiv_compatible
  pub target_class : Inside table.one_digit s.target_class
  pub frame : Inside table.two_digits s.frame
  pub rotation : Inside table.one_digit s.rotation
  pub centre_of_mass : Inside table.one_digit s.centre_of_mass
  pub location : Inside table.two_digits s.location

-- nine values, each good for H3
pub record GoodAccuracy (a : Accuracy) : Type 0 where
  pub nine : length a.values ≡ 9
  pub values : GoodValues H3 (accuracy_values a)

-- H3 and H5 may be absent
abbrev pub GoodAccuracyIf : Option Accuracy → Type 0
GoodAccuracyIf None = Unit {0}
GoodAccuracyIf (Some a) = GoodAccuracy a

abbrev pub GoodOffsetIf : Option Offset → Type 0
GoodOffsetIf None = Unit {0}
GoodOffsetIf (Some o) = GoodValues H5 (offset_values o)

pub record GoodHeader (h : Header) : Type 0 where
  pub origin : GoodValues H1 (origin_values h.origin)
  pub satellite : GoodSatellite h.satellite
  pub accuracy : GoodAccuracyIf h.accuracy
  pub offset : GoodOffsetIf h.offset

-- a row without a velocity, or with one that is good
abbrev pub GoodVelocityIf : Option Vector → Type 0
GoodVelocityIf None = Unit {0}
GoodVelocityIf (Some v) = GoodValues Velocity (velocity_values v)

pub record GoodRow (r : Row) : Type 0 where
  pub position : GoodValues Position (position_values r)
  pub velocity : GoodVelocityIf r.velocity

abbrev pub is_some : Option Vector → Bool
is_some None = false
is_some (Some v) = true

abbrev pub has_velocity : Row → Bool
has_velocity r = is_some r.velocity

-- the row s after the row r: later, with a leap flag that r allows, and with a velocity where r has one
pub record Follows (r s : Row) : Type 0 where
  pub later : moment r.at < moment s.at
  pub flag : allows r.flag s.flag ≡ true
  pub velocity : has_velocity s ≡ has_velocity r

abbrev pub InOrder : Row → List Row → Type 0
InOrder r [] = Unit {0}
InOrder r (s ∷ rs) = Follows r s × InOrder s rs

-- at least one row, each good, in their order
abbrev pub GoodRows : List Row → Type 0
GoodRows [] = ⊥
GoodRows (r ∷ rs) = AllByRecursion GoodRow (r ∷ rs) × InOrder r rs

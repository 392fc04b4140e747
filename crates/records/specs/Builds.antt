use Rattle.std.specs.Prelude.{cond, List, [], ◌∷◌, length, Some, None, nat_lt}
use Rattle.model.specs.declared.Vector.{Vector}
use Rattle.model.specs.declared.header.Origin.{Origin}
use Rattle.model.specs.declared.header.Satellite.{Satellite}
use Rattle.model.specs.declared.header.Accuracy.{Accuracy}
use Rattle.model.specs.declared.header.Offset.{Offset}
use Rattle.records.specs.declared.field.Value.{Value}
use Rattle.records.specs.Values.{number_at, name_at}

-- H1
abbrev pub origin_of : List Value → Origin
origin_of vs =
    record {
      source = name_at vs 2;
      year = number_at vs 3;
      month = number_at vs 4;
      day = number_at vs 5;
      hour = number_at vs 6;
      sequence = number_at vs 7;
      sub_daily = number_at vs 8;
      target = name_at vs 9;
      notes = cond (nat_lt 10 (length vs)) (Some (name_at vs 10)) None;
    }

-- H2
abbrev pub satellite_of : List Value → Satellite
satellite_of vs =
    record {
      ilrs_number = number_at vs 0;
      sic = number_at vs 1;
      norad_number = number_at vs 2;
      tiv_compatible = number_at vs 16;
      target_class = number_at vs 17;
      frame = number_at vs 18;
      rotation = number_at vs 19;
      centre_of_mass = number_at vs 20;
      location = number_at vs 21;
    }

-- H3
abbrev pub accuracy_of : List Value → Accuracy
accuracy_of vs = record { values = number_at vs 0 ∷ number_at vs 1 ∷ number_at vs 2 ∷ number_at vs 3 ∷ number_at vs 4 ∷ number_at vs 5 ∷ number_at vs 6 ∷ number_at vs 7 ∷ number_at vs 8 ∷ [] }

-- H5
abbrev pub offset_of : List Value → Offset
offset_of vs = record { value = number_at vs 0 }

-- record 20
abbrev pub velocity_of : List Value → Vector
velocity_of vs = record { x = number_at vs 1; y = number_at vs 2; z = number_at vs 3 }

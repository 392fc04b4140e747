use Rattle.std.specs.Prelude.{Bool, true, false, ◌&&◌, List, [], ◌∷◌}
use Rattle.records.specs.declared.field.Form.{Form}
use Rattle.records.specs.declared.field.Form.TheVariants as form
use Rattle.records.specs.declared.field.Field.{Field}
use Rattle.records.specs.declared.field.Value.{Value}
use Rattle.records.specs.declared.field.Value.TheVariants.{Number, Text}
use Rattle.records.specs.Fields.{in_bounds}

abbrev pub is_text : Value → Bool
is_text (Number v) = false
is_text (Text n) = true

abbrev pub is_in_bounds : Field → Value → Bool
is_in_bounds f (Number v) = in_bounds f v
is_in_bounds f (Text n) = false

-- a value is of its field's kind, and a number lies in its range
abbrev pub in_field_by : Form → Field → Value → Bool
in_field_by form.Cpf f v = is_text v
in_field_by form.Name f v = is_text v
in_field_by form.Note f v = is_text v
in_field_by form.Whole f v = is_in_bounds f v
in_field_by form.DayOfMonth f v = is_in_bounds f v
in_field_by form.Decimal f v = is_in_bounds f v

abbrev pub in_field : Field → Value → Bool
in_field f v = in_field_by f.form f v

-- as far as there are both
abbrev pub in_fields : List Field → List Value → Bool
in_fields [] vs = true
in_fields (f ∷ fs) [] = true
in_fields (f ∷ fs) (v ∷ vs) = in_field f v && in_fields fs vs

use Rattle.std.specs.Prelude.{ℕ, ◌-◌, Bool, false, cond, ◌&&◌, ◌||◌, List, [], ◌∷◌, length, ℤ, pos, Some, None, Ok, Err, Option, Result, ◌==◌, int_le, nat_le, nat_lt, slice_index_or, unsigned_abs}
use Rattle.std.specs.List.{list_all}
use Rattle.calendar.specs.Dates.{days_in_month}
use Rattle.model.specs.Names.{name_of}
use Rattle.numbers.specs.Values.{whole_of, decimal_of}
use Rattle.records.specs.declared.field.Form.{Form}
use Rattle.records.specs.declared.field.Form.TheVariants as form
use Rattle.records.specs.declared.field.Field.{Field}
use Rattle.records.specs.declared.field.Value.{Value}
use Rattle.records.specs.declared.field.Value.TheVariants.{Number, Text}
use Rattle.records.specs.declared.field.Fault.{Fault}
use Rattle.records.specs.declared.field.Fault.TheVariants as fault

-- A to Z, a to z, 0 to 9
abbrev pub is_name_byte : ℕ → Bool
is_name_byte b = (nat_le 65 b && nat_le b 90) || ((nat_le 97 b && nat_le b 122) || (nat_le 48 b && nat_le b 57))

abbrev pub all_name_bytes : List ℕ → Bool
all_name_bytes w = list_all is_name_byte w

abbrev pub is_cpf : List ℕ → Bool
is_cpf [] = false
is_cpf (a ∷ []) = false
is_cpf (a ∷ (b ∷ [])) = false
is_cpf (a ∷ (b ∷ (c ∷ []))) = a == 67 && (b == 80 && c == 70)
is_cpf (a ∷ (b ∷ (c ∷ (d ∷ rest)))) = false

abbrev pub in_bounds : Field → ℤ → Bool
in_bounds f v = int_le f.least v && int_le v f.greatest

-- a text has the length and the bytes of its form
abbrev pub text_if : Bool → List ℕ → Result Value Fault
text_if ok w = cond ok (Ok (Text (name_of w))) (Err fault.Form)

-- a number lies in its range
abbrev pub number_if : Field → Option ℤ → Result Value Fault
number_if f None = Err fault.Form
number_if f (Some v) = cond (in_bounds f v) (Ok (Number v)) (Err fault.Range)

-- a year or a month as a number; 0 for what is none
abbrev pub date_number : Value → ℕ
date_number (Number v) = cond (int_le (pos 0) v && int_le v (pos 9999)) (unsigned_abs v) 0
date_number (Text n) = 0

-- the days of the month that the last two values name
abbrev pub last_day : List Value → ℕ
last_day before =
    cond (nat_lt (length before) 2) 0
    (days_in_month (date_number (slice_index_or before (length before - 2) (Number (pos 0)))) (date_number (slice_index_or before (length before - 1) (Number (pos 0)))))

abbrev pub day_if : Field → ℕ → Option ℤ → Result Value Fault
day_if f last None = Err fault.Form
day_if f last (Some v) = cond (in_bounds f v && int_le v (pos last)) (Ok (Number v)) (Err fault.Range)

-- the value of a word in its field, after the values of the words before it
abbrev pub value_by : Form → Field → List ℕ → List Value → Result Value Fault
value_by form.Cpf f w before = text_if (is_cpf w) w
value_by form.Name f w before = text_if (in_bounds f (pos (length w)) && all_name_bytes w) w
value_by form.Note f w before = text_if (in_bounds f (pos (length w))) w
value_by form.Whole f w before = number_if f (whole_of w)
value_by form.DayOfMonth f w before = day_if f (last_day before) (whole_of w)
value_by form.Decimal f w before = number_if f (decimal_of w f.places)

abbrev pub field_value : Field → List ℕ → List Value → Result Value Fault
field_value f w before = value_by f.form f w before

use Rattle.std.specs.Prelude.{ℕ, List, [], ◌∷◌, ℤ, pos, negsuc}
use Rattle.records.specs.declared.field.Form.{Form}
use Rattle.records.specs.declared.field.Form.TheVariants as form
use Rattle.records.specs.declared.field.Layout.{Layout}
use Rattle.records.specs.declared.field.Layout.TheVariants.{Plain, TwoDigits, Right}
use Rattle.records.specs.declared.field.Field.{Field}
use Rattle.records.specs.declared.record.Record.{Record}
use Rattle.records.specs.declared.record.Record.TheVariants as rec

abbrev field : Form → ℕ → ℤ → ℤ → Layout → Field
field f d least most how = record { form = f; places = d; least = least; greatest = most; layout = how }

-- form, places, least and greatest value (of a text: of its length), and how it is written
abbrev pub cpf : Field
cpf = field form.Cpf 0 (pos 3) (pos 3) Plain

abbrev pub version : Field
version = field form.Whole 0 (pos 2) (pos 2) Plain

abbrev pub source : Field
source = field form.Name 0 (pos 3) (pos 3) Plain

abbrev pub year : Field
year = field form.Whole 0 (pos 1970) (pos 2099) Plain

abbrev pub month : Field
month = field form.Whole 0 (pos 1) (pos 12) TwoDigits

abbrev pub day : Field
day = field form.DayOfMonth 0 (pos 1) (pos 31) TwoDigits

abbrev pub hour : Field
hour = field form.Whole 0 (pos 0) (pos 23) TwoDigits

abbrev pub minute : Field
minute = field form.Whole 0 (pos 0) (pos 59) TwoDigits

abbrev pub second : Field
second = field form.Whole 0 (pos 0) (pos 59) TwoDigits

abbrev pub sequence : Field
sequence = field form.Whole 0 (pos 0) (pos 999) Plain

abbrev pub sub_daily : Field
sub_daily = field form.Whole 0 (pos 1) (pos 99) Plain

abbrev pub target : Field
target = field form.Name 0 (pos 1) (pos 10) Plain

abbrev pub notes : Field
notes = field form.Note 0 (pos 1) (pos 10) Plain

abbrev pub ilrs_number : Field
ilrs_number = field form.Whole 0 (pos 0) (pos 99999999) Plain

abbrev pub sic : Field
sic = field form.Whole 0 (pos 0) (pos 9999) Plain

abbrev pub norad_number : Field
norad_number = field form.Whole 0 (pos 0) (pos 99999999) Plain

abbrev pub interval : Field
interval = field form.Whole 0 (pos 0) (pos 99999) Plain

abbrev pub one_digit : Field
one_digit = field form.Whole 0 (pos 0) (pos 9) Plain

abbrev pub two_digits : Field
two_digits = field form.Whole 0 (pos 0) (pos 99) Plain

abbrev pub run_off : Field
run_off = field form.Whole 0 (negsuc 9998) (pos 99999) Plain

abbrev pub offset : Field
offset = field form.Decimal 4 (pos 0) (pos 999999) Plain

abbrev pub direction : Field
direction = field form.Whole 0 (pos 0) (pos 0) Plain

abbrev pub day_number : Field
day_number = field form.Whole 0 (pos 40587) (pos 88068) (Right 5)

abbrev pub second_of_day : Field
second_of_day = field form.Decimal 6 (pos 0) (pos 86399999999) (Right 13)

abbrev pub leap_flag : Field
leap_flag = field form.Whole 0 (negsuc 0) (pos 1) (Right 2)

abbrev pub position : Field
position = field form.Decimal 3 (negsuc 999999999999998) (pos 999999999999999) (Right 17)

abbrev pub velocity : Field
velocity = field form.Decimal 6 (negsuc 99999999999999998) (pos 99999999999999999) (Right 19)

abbrev pub h1 : List Field
h1 = cpf ∷ version ∷ source ∷ year ∷ month ∷ day ∷ hour ∷ sequence ∷ sub_daily ∷ target ∷ notes ∷ []

abbrev pub h2 : List Field
h2 = ilrs_number ∷ sic ∷ norad_number ∷ year ∷ month ∷ day ∷ hour ∷ minute ∷ second ∷ year ∷ month ∷ day ∷ hour ∷ minute ∷ second ∷ interval ∷ one_digit ∷ one_digit ∷ two_digits ∷ one_digit ∷ one_digit ∷ two_digits ∷ []

abbrev pub h3 : List Field
h3 = run_off ∷ run_off ∷ run_off ∷ run_off ∷ run_off ∷ run_off ∷ run_off ∷ run_off ∷ run_off ∷ []

abbrev pub h5 : List Field
h5 = offset ∷ []

abbrev pub position_record : List Field
position_record = direction ∷ day_number ∷ second_of_day ∷ leap_flag ∷ position ∷ position ∷ position ∷ []

abbrev pub velocity_record : List Field
velocity_record = direction ∷ velocity ∷ velocity ∷ velocity ∷ []

-- the fields after the record type; of H1 the last may be absent
abbrev pub fields_of : Record → List Field
fields_of rec.H1 = h1
fields_of rec.H2 = h2
fields_of rec.H3 = h3
fields_of rec.H5 = h5
fields_of rec.H9 = []
fields_of rec.Position = position_record
fields_of rec.Velocity = velocity_record
fields_of rec.Comment = []
fields_of rec.Trailer = []

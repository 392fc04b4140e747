-- The values of each record.
use Rattle.std.specs.Prelude.{ℕ, ◌/◌, ◌%◌, List, [], ◌∷◌, ◌++◌, pos, Some, None, Option, slice_index_or}
use Rattle.calendar.specs.Dates.{date_of}
use Rattle.cells.specs.declared.summary.DaySecond.{DaySecond}
use Rattle.cells.specs.declared.summary.Cells.{Cells}
use Rattle.model.specs.Flags.{flag_number}
use Rattle.model.specs.declared.Vector.{Vector}
use Rattle.model.specs.declared.Row.{Row}
use Rattle.model.specs.declared.name.Name.{Name}
use Rattle.model.specs.declared.header.Origin.{Origin}
use Rattle.model.specs.declared.header.Satellite.{Satellite}
use Rattle.model.specs.declared.header.Accuracy.{Accuracy}
use Rattle.model.specs.declared.header.Offset.{Offset}
use Rattle.model.specs.Names.{name_of}
use Rattle.records.specs.declared.field.Value.{Value}
use Rattle.records.specs.declared.field.Value.TheVariants.{Number, Text}

abbrev pub whole : ℕ → Value
whole n = Number (pos n)

-- the notes, where there are any
abbrev pub notes_values : Option Name → List Value
notes_values None = []
notes_values (Some n) = Text n ∷ []

-- H1: the word CPF, version 2, and what the header says
abbrev pub origin_values : Origin → List Value
origin_values o =
    Text (name_of (67 ∷ 80 ∷ 70 ∷ [])) ∷ whole 2 ∷ Text o.source ∷ Number o.year ∷ Number o.month ∷ Number o.day ∷ Number o.hour
    ∷ Number o.sequence ∷ Number o.sub_daily ∷ Text o.target ∷ notes_values o.notes

-- year, month, day, hour, minute and second
abbrev pub time_values : DaySecond → List Value
time_values t =
    whole (date_of t.day).year ∷ whole (date_of t.day).month ∷ whole (date_of t.day).day
    ∷ whole (t.second / 3600) ∷ whole (t.second / 60 % 60) ∷ whole (t.second % 60) ∷ []

-- H2: start, end and interval are those of the rows
abbrev pub satellite_values : Satellite → Cells → List Value
satellite_values s c =
    Number s.ilrs_number ∷ Number s.sic ∷ Number s.norad_number
    ∷ (time_values c.start ++ (time_values c.end ++ (whole c.interval
    ∷ Number s.tiv_compatible ∷ Number s.target_class ∷ Number s.frame ∷ Number s.rotation ∷ Number s.centre_of_mass ∷ Number s.location ∷ [])))

-- H3: the nine values
abbrev pub accuracy_values : Accuracy → List Value
accuracy_values a = let at : ℕ → Value = λ i. Number (slice_index_or a.values i (pos 0)) in at 0 ∷ at 1 ∷ at 2 ∷ at 3 ∷ at 4 ∷ at 5 ∷ at 6 ∷ at 7 ∷ at 8 ∷ []

-- H5
abbrev pub offset_values : Offset → List Value
offset_values o = Number o.value ∷ []

-- 10: direction 0, the instant, the leap flag and the coordinates
abbrev pub position_values : Row → List Value
position_values r =
    whole 0 ∷ whole r.at.day ∷ whole r.at.micros ∷ Number (flag_number r.flag)
    ∷ Number r.position.x ∷ Number r.position.y ∷ Number r.position.z ∷ []

-- 20: direction 0 and the coordinates
abbrev pub velocity_values : Vector → List Value
velocity_values v = whole 0 ∷ Number v.x ∷ Number v.y ∷ Number v.z ∷ []

use Rattle.std.specs.Prelude.{ℕ, ◌+◌, ◌*◌, List, None, unsigned_abs}
use Rattle.std.specs.Option.{unwrap_or}
use Rattle.calendar.specs.Instants.{instant_of}
use Rattle.calendar.specs.Dates.{day_if}
use Rattle.calendar.specs.declared.date.Date.{Date}
use Rattle.cells.specs.declared.summary.DaySecond.{DaySecond}
use Rattle.model.specs.Flags.{flag_of}
use Rattle.model.specs.declared.Row.{Row}
use Rattle.records.specs.declared.field.Value.{Value}
use Rattle.records.specs.Fields.{date_number}
use Rattle.records.specs.Values.{value_at, number_at}
use Rattle.reading.specs.declared.build.Span.{Span}

-- year, month, day, hour, minute and second from the place i on
abbrev pub date_at : List Value → ℕ → Date
date_at vs i = record { year = date_number (value_at vs i); month = date_number (value_at vs (i + 1)); day = date_number (value_at vs (i + 2)) }

abbrev pub second_at : List Value → ℕ → DaySecond
second_at vs i =
    record {
      day = unwrap_or (day_if (date_at vs i)) 0;
      second = date_number (value_at vs (i + 3)) * 3600 + date_number (value_at vs (i + 4)) * 60 + date_number (value_at vs (i + 5));
    }

-- what H2 states of the rows
abbrev pub span_of : List Value → Span
span_of vs = record { start = second_at vs 3; end = second_at vs 9; interval = number_at vs 15 }

-- record 10
abbrev pub row_of : List Value → Row
row_of vs =
    record {
      at = instant_of (unsigned_abs (number_at vs 1)) (unsigned_abs (number_at vs 2));
      flag = flag_of (number_at vs 3);
      position = record { x = number_at vs 4; y = number_at vs 5; z = number_at vs 6 };
      velocity = None;
    }

use Rattle.std.specs.Prelude.{◌*◌, List}
use Rattle.calendar.specs.Instants.{moment}
use Rattle.model.specs.declared.Row.{Row}
use Rattle.other_table.specs.declared.even_table.EvenTable.{EvenTable}
use Rattle.other_table.specs.EvenRows.{rows_from}

-- the rows of the table
abbrev pub even_rows : EvenTable → List Row
even_rows t = rows_from (moment t.first) (t.seconds * 1000000) t.count

use Rattle.std.specs.Prelude.{ℕ, List, [], take, ℤ, pos, slice_index_or}
use Rattle.model.specs.declared.name.Name.{Name}
use Rattle.model.specs.Names.{name_of}
use Rattle.records.specs.declared.field.Value.{Value}
use Rattle.records.specs.declared.field.Value.TheVariants.{Number, Text}
use Rattle.records.specs.declared.values.Values.{Values}

-- the values of a record
abbrev pub values_of : Values → List Value
values_of v = take v.len v.items

abbrev pub number_in : Value → ℤ
number_in (Number v) = v
number_in (Text n) = pos 0

abbrev pub name_in : Value → Name
name_in (Number v) = name_of []
name_in (Text n) = n

-- the value at a place counted from 0
abbrev pub value_at : List Value → ℕ → Value
value_at vs i = slice_index_or vs i (Number (pos 0))

abbrev pub number_at : List Value → ℕ → ℤ
number_at vs i = number_in (value_at vs i)

abbrev pub name_at : List Value → ℕ → Name
name_at vs i = name_in (value_at vs i)

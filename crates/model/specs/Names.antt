use Rattle.std.specs.Prelude.{ℕ, ◌-◌, min, List, ◌++◌, length, take, replicate}
use Rattle.model.specs.declared.name.Name.{Name}

-- the text of a name
abbrev pub name_text : Name → List ℕ
name_text n = take (min n.len 10) n.bytes

-- the name of a text: its first ten bytes, and zeros
abbrev pub name_of : List ℕ → Name
name_of w = record { bytes = take (min (length w) 10) w ++ replicate (10 - min (length w) 10) 0; len = min (length w) 10 }

use Rattle.std.specs.Prelude.{Bool, true, false, cond, ℤ, pos, negsuc, int_lt}
use Rattle.model.specs.declared.LeapFlag.{LeapFlag}
use Rattle.model.specs.declared.LeapFlag.TheVariants.{Removed, NoLeap, Added}

abbrev pub same_flag : LeapFlag → LeapFlag → Bool
same_flag Removed Removed = true
same_flag Removed NoLeap = false
same_flag Removed Added = false
same_flag NoLeap Removed = false
same_flag NoLeap NoLeap = true
same_flag NoLeap Added = false
same_flag Added Removed = false
same_flag Added NoLeap = false
same_flag Added Added = true

-- after a row with a leap flag, every later row has that flag
abbrev pub allows : LeapFlag → LeapFlag → Bool
allows NoLeap f = true
allows Removed f = same_flag Removed f
allows Added f = same_flag Added f

-- the number of a flag in a record
abbrev pub flag_number : LeapFlag → ℤ
flag_number Removed = negsuc 0
flag_number NoLeap = pos 0
flag_number Added = pos 1

-- the flag of a number, by its sign
abbrev pub flag_of : ℤ → LeapFlag
flag_of v = cond (int_lt v (pos 0)) Removed (cond (int_lt (pos 0) v) Added NoLeap)

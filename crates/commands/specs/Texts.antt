-- Each command has a line of its own, which is read as that command.
use Rattle.std.specs.Prelude.{◌≡◌, ℕ, ◌^◌, ◌<◌, ◌≤◌, List, [], ◌∷◌, ◌++◌, length, ℤ, Ok, codes, decimal, ◌≢◌}
use Rattle.std.specs.Int.Signed.{mag}
use Rattle.std.specs.Fmt.{signed_decimal}
use Rattle.std.specs.List.{AllByRecursion}
use Rattle.calendar.specs.declared.instant.Timestamp.{Timestamp}
use Rattle.commands.specs.declared.command.Shifts.{Shifts}
use Rattle.commands.specs.declared.command.Shifts.TheVariants.{Unshifted, One, Two, Three}
use Rattle.commands.specs.Commands.{Asked, new_sheet, opens, pastes, cuts, undoes, shows_cells, shows_journal, shows, closes, shows_row, shows_entry, shows_window, shows_lines, writes, nothing, command_of}

-- a day and its microseconds, before other words
abbrev pub moment_text : Timestamp → List (List ℕ) → List (List ℕ)
moment_text m ws = decimal m.day ∷ (decimal m.micros ∷ ws)

abbrev pub shifts_text : Shifts → List (List ℕ)
shifts_text Unshifted = []
shifts_text (One a) = signed_decimal a ∷ []
shifts_text (Two a b) = signed_decimal a ∷ (signed_decimal b ∷ [])
shifts_text (Three a b c) = signed_decimal a ∷ (signed_decimal b ∷ (signed_decimal c ∷ []))

abbrev pub words_of : Asked → List (List ℕ)
words_of (new_sheet rows taken) = codes "sheet" ∷ (decimal rows ∷ (decimal taken ∷ []))
words_of (opens path) = codes "open" ∷ (path ∷ [])
words_of (pastes path) = codes "paste" ∷ (path ∷ [])
words_of (cuts first last) = codes "cut" ∷ moment_text first (moment_text last [])
words_of undoes = codes "undo" ∷ []
words_of shows_cells = codes "cells" ∷ []
words_of shows_journal = codes "journal" ∷ []
words_of shows = codes "show" ∷ []
words_of closes = codes "close" ∷ []
words_of (shows_row n) = codes "row" ∷ (decimal n ∷ [])
words_of (shows_entry n) = codes "entry" ∷ (decimal n ∷ [])
words_of (shows_window moment shifts) = codes "window" ∷ moment_text moment (shifts_text shifts)
words_of (shows_lines path moment) = codes "lines" ∷ (path ∷ moment_text moment [])
words_of (writes path) = codes "write" ∷ (path ∷ [])
words_of nothing = []

-- words with one space between each two
abbrev pub spaced : List (List ℕ) → List ℕ
spaced [] = []
spaced (w ∷ []) = w
spaced (w ∷ (v ∷ ws)) = w ++ (32 ∷ spaced (v ∷ ws))

-- some bytes, and no space
abbrev pub OneWord : List ℕ → Type 0
OneWord w = (1 ≤ length w) × AllByRecursion (λ b. b ≢ 32) w

abbrev pub GoodMoment : Timestamp → Type 0
GoodMoment m = (m.day < 2 ^ 32) × (m.micros < 2 ^ 64)

-- from -2^63 to 2^63 - 1
abbrev pub GoodShift : ℤ → Type 0
GoodShift v = mag v < 2 ^ 63

abbrev pub GoodShifts : Shifts → Type 0
GoodShifts Unshifted = Unit {0}
GoodShifts (One a) = GoodShift a
GoodShifts (Two a b) = GoodShift a × GoodShift b
GoodShifts (Three a b c) = GoodShift a × (GoodShift b × GoodShift c)

-- what a command can hold
abbrev pub Good : Asked → Type 0
Good (new_sheet rows taken) = (rows ≤ 8192) × (taken ≤ 8192)
Good (opens path) = OneWord path
Good (pastes path) = OneWord path
Good (cuts first last) = GoodMoment first × GoodMoment last
Good undoes = Unit {0}
Good shows_cells = Unit {0}
Good shows_journal = Unit {0}
Good shows = Unit {0}
Good closes = Unit {0}
Good (shows_row n) = n < 2 ^ 64
Good (shows_entry n) = n < 2 ^ 64
Good (shows_window moment shifts) = GoodMoment moment × GoodShifts shifts
Good (shows_lines path moment) = OneWord path × GoodMoment moment
Good (writes path) = OneWord path
Good nothing = Unit {0}

abbrev pub CommandsReadBack : Type 0
CommandsReadBack = (a : Asked) → Good a → command_of (spaced (words_of a)) ≡ Ok a

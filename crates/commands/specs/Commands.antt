-- What a line of a script asks for.
use Rattle.std.specs.Prelude.{ℕ, ◌-◌, Bool, false, cond, List, [], ◌∷◌, length, Some, None, Ok, Err, Option, Result, ◌==◌}
use Rattle.lines.specs.Words.{words}
use Rattle.command_error.specs.declared.CommandError.{CommandError}
use Rattle.command_error.specs.declared.CommandError.TheVariants.{UnknownCommand, WordCount}
use Rattle.calendar.specs.declared.instant.Timestamp.{Timestamp}
use Rattle.commands.specs.declared.command.Shifts.{Shifts}
use Rattle.commands.specs.declared.kind.Kind.{Kind}
use Rattle.commands.specs.declared.kind.Kind.TheVariants.{Sheet, Open, Paste, Cut, Undo, Cells, Journal, Show, Close, Row, Entry, Window, Lines, Write}
use Rattle.commands.specs.Arguments.{and_then, word_at, index_at, rows_at, moment_at, shifts_of}
use Rattle.commands.specs.Kinds.{form_of, kind_of, takes}

-- what can be asked for; paths are bytes
pub data Asked : Type 0 where
  new_sheet : (rows taken : ℕ) → Asked
  opens : List ℕ → Asked
  pastes : List ℕ → Asked
  cuts : Timestamp → Timestamp → Asked
  undoes : Asked
  shows_cells : Asked
  shows_journal : Asked
  shows : Asked
  closes : Asked
  shows_row : ℕ → Asked
  shows_entry : ℕ → Asked
  shows_window : Timestamp → Shifts → Asked
  shows_lines : List ℕ → Timestamp → Asked
  writes : List ℕ → Asked
  nothing : Asked

-- the first byte is '#'
abbrev pub is_comment : List ℕ → Bool
is_comment [] = false
is_comment (b ∷ bs) = b == 35

-- a command of this kind from the words of its line; the first is its name
abbrev pub asked_by : Kind → List (List ℕ) → Result Asked CommandError
asked_by Sheet ws = and_then (rows_at ws 2) (λ rows. and_then (rows_at ws 3) (λ taken. Ok (new_sheet rows taken)))
asked_by Open ws = Ok (opens (word_at ws 2))
asked_by Paste ws = Ok (pastes (word_at ws 2))
asked_by Cut ws = and_then (moment_at ws 2) (λ first. and_then (moment_at ws 4) (λ last. Ok (cuts first last)))
asked_by Undo ws = Ok undoes
asked_by Cells ws = Ok shows_cells
asked_by Journal ws = Ok shows_journal
asked_by Show ws = Ok shows
asked_by Close ws = Ok closes
asked_by Row ws = and_then (index_at ws 2) (λ n. Ok (shows_row n))
asked_by Entry ws = and_then (index_at ws 2) (λ n. Ok (shows_entry n))
asked_by Window ws = and_then (moment_at ws 2) (λ moment. and_then (shifts_of (length ws - 3) ws) (λ shifts. Ok (shows_window moment shifts)))
asked_by Lines ws = and_then (moment_at ws 3) (λ moment. Ok (shows_lines (word_at ws 2) moment))
asked_by Write ws = Ok (writes (word_at ws 2))

-- so many words follow the name
abbrev pub by_kind : Option Kind → ℕ → List (List ℕ) → Result Asked CommandError
by_kind None n ws = Err UnknownCommand
by_kind (Some k) n ws = cond (takes (form_of k) n) (asked_by k ws) (Err (WordCount (form_of k).fewest (form_of k).most))

abbrev pub by_words : List (List ℕ) → Result Asked CommandError
by_words [] = Ok nothing
by_words (name ∷ rest) = by_kind (kind_of name) (length rest) (name ∷ rest)

abbrev pub command_of : List ℕ → Result Asked CommandError
command_of line = cond (is_comment line) (Ok nothing) (by_words (words line))

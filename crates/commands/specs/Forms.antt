-- What the code holds, with lists in place of its references.
use Rattle.std.specs.Prelude.{Ok, Err, Result}
use Rattle.commands.specs.declared.command.Command.{Command}
use Rattle.commands.specs.declared.command.Command.TheVariants.{Sheet, Open, Paste, Cut, Undo, Cells, Journal, Show, Close, Row, Entry, Window, Lines, Write, Nothing}
use Rattle.command_error.specs.declared.CommandError.{CommandError}
use Rattle.commands.specs.declared.kind as code
use Rattle.commands.specs.Commands.{Asked, new_sheet, opens, pastes, cuts, undoes, shows_cells, shows_journal, shows, closes, shows_row, shows_entry, shows_window, shows_lines, writes, nothing}
use Rattle.commands.specs.Kinds.{Form}

abbrev pub plain_form : code.Form.Form → Form
plain_form f = record { name = f.name.now; fewest = f.fewest; most = f.most }

abbrev pub asked : Command → Asked
asked (Sheet rows taken) = new_sheet rows taken
asked (Open path) = opens path.now
asked (Paste path) = pastes path.now
asked (Cut first last) = cuts first last
asked Undo = undoes
asked Cells = shows_cells
asked Journal = shows_journal
asked Show = shows
asked Close = closes
asked (Row number) = shows_row number
asked (Entry number) = shows_entry number
asked (Window moment shifts) = shows_window moment shifts
asked (Lines path moment) = shows_lines path.now moment
asked (Write path) = writes path.now
asked Nothing = nothing

abbrev pub plain : Result Command CommandError → Result Asked CommandError
plain (Ok c) = Ok (asked c)
plain (Err e) = Err e

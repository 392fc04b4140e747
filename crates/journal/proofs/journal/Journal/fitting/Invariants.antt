use Rattle.std.proofs.Common.{◌≡◌, ◌≤◌, take}
use Rattle.journal.specs.Journals.{entries_of, taken_by}
use Rattle.journal.proofs.journal.Journal.fitting.Given as goal

abbrev pub invariant-loop-entry : goal.invariant-loop-entry
invariant-loop-entry l = (l.kept.entries ≡ l.entry-index) × (l.kept.rows ≡ taken_by (take l.kept.entries (entries_of l.self))) × (l.kept.rows ≤ l.room)

use Rattle.std.proofs.Common.{arith, length-take}
use Rattle.journal.specs.declared.journal.Edit.TheVariants.{Paste}
use Rattle.journal.specs.declared.journal.Entry.{Entry}
use Rattle.journal.proofs.EntryLaws.{taken_more}
use Rattle.journal.proofs.journal.Journal.fitting.Goals as goal

-- the default at which the checker reads an entry
abbrev none : Entry
none = record { edit = Paste; first = 0; put = 0; taken = 0 }

pub loop-entry-preserved : goal.loop-entry-preserved
loop-entry-preserved c =
    let j = c.args.self.now in
    let more = taken_more j.entries c.min.result j.len c.loop-entry.kept.entries c.loop-entry.entry-index none (omega arith) (omega arith) (omega arith) in
    (omega arith, omega arith, omega arith)

pub returns-then-entry-room : goal.returns-then-entry-room
returns-then-entry-room c =
    let j = c.args.self.now in
    let more = taken_more j.entries c.min.result j.len c.loop-entry.kept.entries c.loop-entry.entry-index none (omega arith) (omega arith) (omega arith) in
    let long = length-take j.len j.entries in
    let front = length-take c.min.result j.entries in
    record { some = omega arith; few = omega arith; total = c.loop-entry.invariant.1; fit = c.loop-entry.invariant.2; most = λ _ _. omega arith }

use Rattle.tables.proofs.Places.{place_got}
use Rattle.journal.specs.Journals.{entries_of}
use Rattle.journal.proofs.journal.Journal.entry.Goals as goal

pub returns : goal.returns
returns c = place_got (entries_of c.args.self.now) c.args.i c.get.result c.copied.result _ c.get.ensures.lookup c.copied.ensures c.ok_or.ensures.value

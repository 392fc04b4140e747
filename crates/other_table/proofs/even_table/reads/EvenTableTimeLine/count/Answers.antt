use Rattle.std.proofs.Common.{◌*◌, sym, ◌∙◌}
use Rattle.std.proofs.lemmas.List.{length-map}
use Rattle.calendar.specs.Instants.{moment}
use Rattle.tables.specs.Lines.{time_of}
use Rattle.other_table.specs.Meaning.{even_rows}
use Rattle.other_table.proofs.Evens.{length_from}
use Rattle.other_table.proofs.even_table.reads.EvenTableTimeLine.count.Goals as goal

pub returns : goal.returns
returns c =
    sym (length-map (even_rows c.args.self.now) time_of
    ∙ length_from (moment c.args.self.now.first) (c.args.self.now.seconds * 1000000) c.args.self.now.count)

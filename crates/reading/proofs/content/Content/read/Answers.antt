use Rattle.std.proofs.Common.{◌≡◌, Ok, subst}
use Rattle.records.specs.Reads.{read_record}
use Rattle.records.specs.Values.{values_of}
use Rattle.records.proofs.RangeLaws.{position_in_calendar}
use Rattle.reading.proofs.content.Content.read.Goals as goal

pub of-requires : goal.of-requires
of-requires c =
    let vs = values_of c.in_ok-values.values in
    let words = c.args.words.now in
    λ e. position_in_calendar c.args.line words vs (subst (λ k. read_record c.args.line k words ≡ Ok vs) e c.in_ok-values.ensures)

use Rattle.std.proofs.Common.{◌≡◌, Some, sym, ap, ◌∙◌}
use Rattle.std.specs.Result.{result_ok}
use Rattle.reading.specs.Stores.{part_of}
use Rattle.reading.proofs.PartLaws.{said, part_by}
use Rattle.reading.proofs.part.RowPart.of.Goals as goal
use Rattle.reading.proofs.part.RowPart.of.Goals.{After-read}

of_line : (c : After-read) → part_of c.args.number c.args.line.now ≡ said (result_ok c.read.result)
of_line c = part_by c.args.number c.args.line.now c.in_ok-kind.kind c.read.result c.in_ok-kind.ensures c.read.ensures

pub returns-in_err-ok-in-Position : goal.returns-in_err-ok-in-Position
returns-in_err-ok-in-Position c = c.from_residual-in_err-ok-in-Position.ensures ∙ ap said c.in_err-ok-in-Position.ensures.value ∙ sym (of_line (goal.at.returns-in_err-ok-in-Position c).After-read)

pub returns-in_err-branch-in-Position : goal.returns-in_err-branch-in-Position
returns-in_err-branch-in-Position c =
    c.from_residual-in_err-branch-in-Position.ensures ∙ ap (λ o. said (Some o)) (sym c.in_err-branch-in-Position.was) ∙ ap said c.in_ok-ok-in-Position.ensures.value ∙ sym (of_line (goal.at.returns-in_err-branch-in-Position c).After-read)

pub returns-in_ok-branch-in-Position : goal.returns-in_ok-branch-in-Position
returns-in_ok-branch-in-Position c = c.rows.ensures ∙ ap (λ o. said (Some o)) (sym c.in_ok-branch-in-Position.was) ∙ ap said c.in_ok-ok-in-Position.ensures.value ∙ sym (of_line (goal.at.returns-in_ok-branch-in-Position c).After-read)

use Rattle.std.proofs.Common.{◌≡◌, Some, Ok, sym, refl, ap, ◌∙◌, arith}
use Rattle.std.proofs.lemmas.Result.{err_from_is_err_and}
use Rattle.records.specs.Types.{record_of}
use Rattle.reading.specs.Contents.{with_content}
use Rattle.reading.specs.Order.{next_stage}
use Rattle.reading.specs.Scans.{on_ok, at_stage, with_stage}
use Rattle.reading.proofs.StepLaws.{step_by}
use Rattle.reading.proofs.scan.Scan.line.Goals as goal
use Rattle.reading.proofs.scan.Scan.line.Goals.{in-Some+in_ok-check, in_default}

pub returns-in_err-content : goal.returns-in_err-content
returns-in_err-content c =
    let p = err_from_is_err_and c.from_residual-in_err-content.result c.from_residual-in_err-content.ensures.1 in
    let s = c.args.self.now in
    let k : Some c.in_ok-kind.kind ≡ record_of c.args.line.now = grind arith in
    let t : Some c.in_ok-stage.stage ≡ next_stage s.part s.stage c.in_ok-kind.kind = grind arith in
    rw (p.1, p.2) (step_by c.args.number c.args.line.now s c.in_ok-kind.kind c.in_ok-stage.stage _ k t c.in_err-content.ensures, refl)

pub returns-in_err-check : goal.returns-in_err-check
returns-in_err-check c =
    let p = err_from_is_err_and c.from_residual-in_err-check.result c.from_residual-in_err-check.ensures.1 in
    let s = c.args.self.now in
    let st = c.in_ok-stage.stage in
    let k : Some c.in_ok-kind.kind ≡ record_of c.args.line.now = grind arith in
    let t : Some st ≡ next_stage s.part s.stage c.in_ok-kind.kind = grind arith in
    let u = sym (ap Ok c.in-Some.is) ∙ c.in_ok-content.ensures in
    rw (p.1, p.2) (step_by c.args.number c.args.line.now s c.in_ok-kind.kind st _ k t u ∙ ap (λ a. at_stage st (on_ok a (with_content s c.in-Some.content))) (sym c.in_err-check.ensures), refl)

pub returns : goal.returns
returns c =
    let s = c.args.self.now in
    let st = c.in_ok-stage.stage in
    let k : Some c.in_ok-kind.kind ≡ record_of c.args.line.now = grind arith in
    let t : Some st ≡ next_stage s.part s.stage c.in_ok-kind.kind = grind arith in
    elim c.match-branch-4.branch [
      | in-Some+in_ok-check w ↦
          let u = sym (ap Ok w.in-Some.is) ∙ c.in_ok-content.ensures in
          step_by c.args.number c.args.line.now s c.in_ok-kind.kind st _ k t u
          ∙ ap (λ a. at_stage st (on_ok a (with_content s w.in-Some.content))) (sym w.in_ok-check.ensures)
          ∙ ap (λ v. Ok (with_stage st v)) (sym (w.self-is ∙ w.add.ensures))
      | in_default w ↦
          let u = sym (ap Ok w.in_default.is) ∙ c.in_ok-content.ensures in
          step_by c.args.number c.args.line.now s c.in_ok-kind.kind st _ k t u
          ∙ ap (λ v. Ok (with_stage st v)) (sym w.self-is)
    ]

use Rattle.std.proofs.Common.{◌≡◌, length, Ok, ap, subst}
use Rattle.sheet.specs.Openings.{opened_from}
use Rattle.rewrite.proofs.Written.{answer_is, output_is}
use Rattle.rewrite.proofs.rewriting.rewrite.Goals as goal

pub returns : goal.returns
returns c =
    let a = c.in_ok-open_file.ensures in
    let input = c.args.input.now in
    let told = subst (λ n. opened_from n input ≡ Ok a.contents) (ap length c.new-sheet.ensures.memory.0) a.opened in
    record {
      answer = answer_is _ input _ a.contents _ _ c.if-input-gt-LONGEST_INPUT.false told a.holds.header a.holds.rows _ c.write.ensures.answer;
      output = output_is _ input _ a.contents _ _ c.if-input-gt-LONGEST_INPUT.false told a.holds.header a.holds.rows _ c.write.ensures.after;
    }

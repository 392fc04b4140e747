use Rattle.std.proofs.Common.{sym, ◌∙◌}
use Rattle.std.proofs.lemmas.Bool.{eq-eqb, ne_eqb}
use Rattle.lines.proofs.LineLaws.{end_found, end_none}
use Rattle.lines.proofs.scan.scan.Goals as goal

pub returns-in-Some-clause-is : goal.returns-in-Some-clause-is
returns-in-Some-clause-is c = c.ended.ensures ∙ sym (end_found c.args.text.now c.in-Some.n (sym c.in-Some.ensures) ∙ rw (eq-eqb _ _ c.if-text-n-eq-LINE_END.true))

pub returns-in_default-clause-is : goal.returns-in_default-clause-is
returns-in_default-clause-is c = sym (end_found c.args.text.now c.in-Some.n (sym c.in-Some.ensures) ∙ rw (ne_eqb _ _ c.if-text-n-eq-LINE_END.false))

pub returns-in_default-2-clause-is : goal.returns-in_default-2-clause-is
returns-in_default-2-clause-is c = sym (end_none c.args.text.now (sym c.in_default.ensures))

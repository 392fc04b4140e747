use Rattle.std.proofs.Common.{◌≡◌, ◌+◌, ◌*◌, ◌-◌, ◌<◌, get_or, None, sym, ◌∙◌, arith, rules, false-eqb}
use Rattle.commands.specs.Numerals.{numeral_of}
use Rattle.commands.proofs.Digits.{read_some, read_over}
use Rattle.commands.proofs.numeral.numeral.Goals as goal
use Rattle.commands.proofs.numeral.numeral.Goals.{Else-not-is_ascii_digit}

-- a number past every `u64` is more than `most`
over : (c : Else-not-is_ascii_digit) → c.args.most < c.loop-byte.value * 10 + (get_or c.args.word.now c.loop-byte.byte-index 0 - 48) → numeral_of c.args.most c.args.word.now ≡ None
over c l =
    read_some c.args.most c.args.word.now (omega (arith, false-eqb _ 0 c.if-is_empty.ensures)) ∙ sym c.loop-byte.invariant
    ∙ read_over c.args.most c.loop-byte.value c.args.word.now c.loop-byte.byte-index c.loop-byte-test.true (search rules) l

pub returns-in_err-checked_mul-clause-is : goal.returns-in_err-checked_mul-clause-is
returns-in_err-checked_mul-clause-is c =
    let r : c.from_residual.result ≡ None = search rules in
    r ∙ sym (over (goal.at.returns-in_err-checked_mul-clause-is c).Else-not-is_ascii_digit (omega (arith, c.in_err-checked_mul.ensures)))

pub returns-in_err-value-clause-is : goal.returns-in_err-value-clause-is
returns-in_err-value-clause-is c =
    let r : c.from_residual-in_err-value.result ≡ None = search rules in
    let d : c.from.result ≡ get_or c.args.word.now c.loop-byte.byte-index 0 - 48 = search rules in
    let p : c.in_ok-checked_mul.field-0 ≡ c.loop-byte.value * 10 = search rules in
    r ∙ sym (over (goal.at.returns-in_err-value-clause-is c).Else-not-is_ascii_digit (omega (arith, c.in_err-value.ensures)))

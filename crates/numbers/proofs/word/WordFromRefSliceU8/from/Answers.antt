use Rattle.std.proofs.Common.{◌≡◌, ◌≤◌, length, ◌∙◌, rules}
use Rattle.numbers.specs.Shapes.{by_rest, word_of}
use Rattle.numbers.proofs.Taken.{run_front}
use Rattle.numbers.proofs.Words as words
use Rattle.numbers.proofs.word.WordFromRefSliceU8.from.Goals as goal
use Rattle.numbers.proofs.word.WordFromRefSliceU8.from.Goals.{Else-front-gt-MOST_DIGITS, in_default-via-in-46+else-digit_run-back, in_default-via-in_default-1}

-- the word by what follows its digits
split : (c : Else-front-gt-MOST_DIGITS) → by_rest c.args.bytes.now c.split_sign-negative.result.0 c.split_at.result.0.now c.split_at.result.1.now ≡ word_of c.args.bytes.now
split c =
    let sign = c.split_sign-negative.ensures in
    let parts = c.split_at.ensures in
    words.split c.args.bytes.now _ _ _ _ c.digit_run.result sign.negative sign.rest c.digit_run.ensures.is parts.front parts.back (search rules) (search rules)

pub invariant_of-digits : goal.invariant_of-digits
invariant_of-digits c = record { all = run_front c.split_sign-negative.result.1.now c.split_at.result.0.now c.digit_run.result c.digit_run.ensures.is c.split_at.ensures.front }

pub returns-in_default : goal.returns-in_default
returns-in_default c =
    let some : 1 ≤ length c.split_at.result.1.now = search rules in
    elim c.in_default.branch [
      | in_default-via-in-46+else-digit_run-back w ↦ words.no_digits c.args.bytes.now _ _ c.split_at.result.1.now some (search rules)
      | in_default-via-in_default-1 w ↦ words.no_point c.args.bytes.now _ _ c.split_at.result.1.now some (search rules)
    ]
    ∙ split (goal.at.returns-in_default c).Else-front-gt-MOST_DIGITS

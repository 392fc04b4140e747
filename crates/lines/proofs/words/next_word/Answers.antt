use Rattle.std.proofs.Common.{◌<◌, length, sym, ◌∙◌, arith, false-eqb}
use Rattle.lines.proofs.WordLaws.{cut_word}
use Rattle.lines.proofs.words.next_word.Goals as goal

pub returns-clause-words : goal.returns-clause-words
returns-clause-words c =
    let s = c.skip_spaces-front.result.now in
    let n = c.word_len-n.result in
    let told = c.word_len-n.ensures in
    let parts = c.split_at.ensures in
    let some : 0 < length s = omega (arith, false-eqb _ 0 c.if-is_empty.ensures) in
    sym c.skip_spaces-front.ensures.same ∙ cut_word s n some c.skip_spaces-front.ensures.first told.within told.before told.found ∙ rw (parts.front, parts.back)

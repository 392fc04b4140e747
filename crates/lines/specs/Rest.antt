use Rattle.std.specs.Prelude.{ℕ, List}
use Rattle.lines.specs.declared.words.Words.{Words}
use Rattle.lines.specs.Words.{words}

-- the words that an iterator over a line has yet to give
abbrev pub words_left : Words → List (List ℕ)
words_left w = words w.rest.now

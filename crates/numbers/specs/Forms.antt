-- A word of the code with lists in place of its references.
use Rattle.numbers.specs.declared.word.Word.{Word}
use Rattle.numbers.specs.declared.word.Word.TheVariants.{Whole, Decimal, Text}
use Rattle.numbers.specs.Shapes.{Shape, whole_word, decimal_word, text_word}

abbrev pub shape_of : Word → Shape
shape_of (Whole w) = whole_word w.negative w.digits.bytes.now
shape_of (Decimal w fraction) = decimal_word w.negative w.digits.bytes.now fraction.bytes.now
shape_of (Text bytes) = text_word bytes.now

use Rattle.std.specs.Prelude.{ℕ}
use Rattle.refusal.specs.declared.Refusal.{Refusal}
use Rattle.refusal.specs.declared.Refusal.TheVariants.{ForbiddenByte, TooLong, UnknownRecord, OutOfPlace, WordCount, WrongForm, OutOfRange, NotAfter, FlagChanges, CellsDisagree, TooManyRows, VelocitiesDiffer, TakenRowsExceed, NoFileOpen, NothingToCut, CutTakesAll, JournalEmpty, NoSuchNumber, OutsideCalendar, WindowTooEarly, WindowTooLate, WindowFlagsDiffer, OutputTooShort, ShiftTooLarge}

-- the number of each refusal
abbrev pub number_of : Refusal → ℕ
number_of (ForbiddenByte line) = 11
number_of (TooLong line) = 12
number_of (UnknownRecord line) = 13
number_of (OutOfPlace line) = 14
number_of (WordCount line) = 15
number_of (WrongForm line word) = 16
number_of (OutOfRange line word) = 17
number_of (NotAfter line) = 18
number_of (FlagChanges line) = 19
number_of CellsDisagree = 20
number_of (TooManyRows line) = 21
number_of VelocitiesDiffer = 22
number_of TakenRowsExceed = 23
number_of NoFileOpen = 24
number_of NothingToCut = 25
number_of CutTakesAll = 26
number_of JournalEmpty = 27
number_of NoSuchNumber = 28
number_of OutsideCalendar = 29
number_of WindowTooEarly = 30
number_of WindowTooLate = 31
number_of WindowFlagsDiffer = 32
number_of OutputTooShort = 33
number_of ShiftTooLarge = 34

-- the line that it names; 0 where none applies
abbrev pub line_of : Refusal → ℕ
line_of (ForbiddenByte line) = line
line_of (TooLong line) = line
line_of (UnknownRecord line) = line
line_of (OutOfPlace line) = line
line_of (WordCount line) = line
line_of (WrongForm line word) = line
line_of (OutOfRange line word) = line
line_of (NotAfter line) = line
line_of (FlagChanges line) = line
line_of CellsDisagree = 0
line_of (TooManyRows line) = line
line_of VelocitiesDiffer = 0
line_of TakenRowsExceed = 0
line_of NoFileOpen = 0
line_of NothingToCut = 0
line_of CutTakesAll = 0
line_of JournalEmpty = 0
line_of NoSuchNumber = 0
line_of OutsideCalendar = 0
line_of WindowTooEarly = 0
line_of WindowTooLate = 0
line_of WindowFlagsDiffer = 0
line_of OutputTooShort = 0
line_of ShiftTooLarge = 0

-- the word of that line; 0 where none applies
abbrev pub word_of : Refusal → ℕ
word_of (ForbiddenByte line) = 0
word_of (TooLong line) = 0
word_of (UnknownRecord line) = 0
word_of (OutOfPlace line) = 0
word_of (WordCount line) = 0
word_of (WrongForm line word) = word
word_of (OutOfRange line word) = word
word_of (NotAfter line) = 0
word_of (FlagChanges line) = 0
word_of CellsDisagree = 0
word_of (TooManyRows line) = 0
word_of VelocitiesDiffer = 0
word_of TakenRowsExceed = 0
word_of NoFileOpen = 0
word_of NothingToCut = 0
word_of CutTakesAll = 0
word_of JournalEmpty = 0
word_of NoSuchNumber = 0
word_of OutsideCalendar = 0
word_of WindowTooEarly = 0
word_of WindowTooLate = 0
word_of WindowFlagsDiffer = 0
word_of OutputTooShort = 0
word_of ShiftTooLarge = 0

-- The rows of a block are such as a file can have.
use Rattle.std.specs.Prelude.{◌≡◌, ℕ, List, None, Ok}
use Rattle.reading.specs.declared.scan.Scan.{Scan}
use Rattle.reading.specs.declared.stage.Part.TheVariants.{Block}
use Rattle.reading.specs.Texts.{scan_of}
use Rattle.reading.specs.Stores.{rows_in}
use Rattle.round_trip.specs.Contents.{GoodRows}

-- whatever the bytes are
abbrev pub BlocksAreGood : Type 0
BlocksAreGood = (block : List ℕ) (u : Scan) → scan_of Block None block ≡ Ok u → GoodRows (rows_in block)

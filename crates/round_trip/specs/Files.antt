-- What is written of a file is read back.
use Rattle.std.specs.Prelude.{◌≡◌, ℕ, ◌+◌, ◌*◌, ◌≤◌, min, List, length, Ok}
use Rattle.model.specs.declared.Row.{Row}
use Rattle.model.specs.declared.header.Header.{Header}
use Rattle.writing.specs.Files.{canonical}
use Rattle.sheet.specs.Openings.{opened_from}
use Rattle.format.specs.Format.{IsFile}
use Rattle.round_trip.specs.Contents.{GoodHeader, GoodRows}

-- the canonical file of good header and rows that the memory can hold opens, and has this header and these rows
abbrev pub FilesReadBack : Type 0
FilesReadBack = (memory : ℕ) (h : Header) (rows : List Row) → GoodHeader h → GoodRows rows → length rows ≤ min memory 8192 → opened_from memory (canonical h rows) ≡ Ok (record { header = h; rows = rows })

-- it is a file of the format with exactly this header and these rows
abbrev pub CanonicalFilesAreFiles : Type 0
CanonicalFilesAreFiles = (h : Header) (rows : List Row) → GoodHeader h → GoodRows rows → length rows ≤ 8192 → IsFile (canonical h rows) h rows

-- the longest canonical file of n rows has 225 + 147 × n bytes
abbrev pub FilesAreShort : Type 0
FilesAreShort = (h : Header) (rows : List Row) → GoodHeader h → GoodRows rows → length (canonical h rows) ≤ 225 + 147 * length rows

-- Reading is exact: what is opened is a file's header and rows, and every file that fits is opened. The same holds of blocks.
use Rattle.std.specs.Prelude.{◌≡◌, ℕ, ◌≤◌, min, List, length, None, Ok}
use Rattle.model.specs.declared.Row.{Row}
use Rattle.model.specs.declared.header.Header.{Header}
use Rattle.reading.specs.declared.scan.Scan.{Scan}
use Rattle.reading.specs.declared.stage.Part.TheVariants.{Block}
use Rattle.reading.specs.Texts.{scan_of}
use Rattle.reading.specs.Stores.{rows_in}
use Rattle.sheet.specs.Openings.{opened_from}
use Rattle.format.specs.Format.{IsFile, IsBlock}

-- a sheet with memory for so many rows, and at most 8,192, opens the bytes, and has this header and these rows
abbrev pub Opens : ℕ → List ℕ → Header → List Row → Type 0
Opens memory bs h rows = opened_from memory bs ≡ Ok (record { header = h; rows = rows })

-- the bytes are a file whose rows fit
abbrev pub FileThatFits : ℕ → List ℕ → Header → List Row → Type 0
FileThatFits memory bs h rows = IsFile bs h rows × (length rows ≤ min memory 8192)

abbrev pub OpeningExact : Type 0
OpeningExact = (memory : ℕ) (bs : List ℕ) (h : Header) (rows : List Row) → (Opens memory bs h rows → FileThatFits memory bs h rows) × (FileThatFits memory bs h rows → Opens memory bs h rows)

-- a file has one header and one list of rows
abbrev pub ContentsUnique : Type 0
ContentsUnique = (bs : List ℕ) (h g : Header) (rows others : List Row) → IsFile bs h rows → IsFile bs g others → (h ≡ g) × (rows ≡ others)

-- the bytes are accepted as a block, with room for any number of rows, and have these rows
pub record ReadAsBlock (bs : List ℕ) (rows : List Row) : Type 0 where
  pub scan : Scan
  pub accepted : scan_of Block None bs ≡ Ok scan
  pub rows_are : rows_in bs ≡ rows

abbrev pub BlocksExact : Type 0
BlocksExact = (bs : List ℕ) (rows : List Row) → (ReadAsBlock bs rows → IsBlock bs rows) × (IsBlock bs rows → ReadAsBlock bs rows)

-- a block has one list of rows
abbrev pub BlockRowsUnique : Type 0
BlockRowsUnique = (bs : List ℕ) (rows others : List Row) → IsBlock bs rows → IsBlock bs others → rows ≡ others

use Rattle.std.specs.Prelude.{ℕ, min, List, Some, Ok, Err, Result}
use Rattle.refusal.specs.declared.Refusal.{Refusal}
use Rattle.model.specs.declared.Row.{Row}
use Rattle.model.specs.declared.header.Header.{Header}
use Rattle.reading.specs.declared.scan.Scan.{Scan}
use Rattle.reading.specs.declared.stage.Part.TheVariants.{File}
use Rattle.reading.specs.Texts.{scan_of}
use Rattle.reading.specs.Stores.{rows_in}

-- header and rows of a file
pub record Contents : Type 0 where
  pub header : Header
  pub rows : List Row

abbrev pub contents_by : Result Scan Refusal → List Row → Result Contents Refusal
contents_by (Ok s) rows = Ok (record { header = s.header; rows = rows })
contents_by (Err e) rows = Err e

-- what a sheet with memory for so many rows makes of a file: a sheet has at most 8,192 rows
abbrev pub opened_from : ℕ → List ℕ → Result Contents Refusal
opened_from memory file = contents_by (scan_of File (Some (min memory 8192)) file) (rows_in file)

-- What an opening answers and leaves, in the words of the format.
use Rattle.std.specs.Prelude.{◌≡◌, ℕ, List, Ok, Err, Result}
use Rattle.refusal.specs.declared.Refusal.{Refusal}
use Rattle.model.specs.declared.Row.{Row}
use Rattle.model.specs.declared.header.Header.{Header}
use Rattle.sheet.specs.declared.sheet.Sheet.{Sheet}
use Rattle.sheet.specs.Openings.{Contents, opened_from}
use Rattle.sheet.specs.Sheets.{Holds, Unchanged}
use Rattle.format.specs.Laws.{FileThatFits}

-- the bytes are a file that fits, and the sheet holds it
pub record Accepted (memory : ℕ) (file : List ℕ) (s t : Sheet) : Type 0 where
  pub contents : Contents
  pub is : FileThatFits memory file contents.header contents.rows
  pub opened : opened_from memory file ≡ Ok contents
  pub holds : Holds contents s t

-- the bytes are no file that fits; the refusal is the first that the checks come to, and nothing has changed
pub record Refused (memory : ℕ) (file : List ℕ) (e : Refusal) (s t : Sheet) : Type 0 where
  pub none : (h : Header) (rows : List Row) → FileThatFits memory file h rows → ⊥
  pub first : opened_from memory file ≡ Err e
  pub unchanged : Unchanged s t

abbrev pub OpenedAsFile : Result (Unit {0}) Refusal → ℕ → List ℕ → Sheet → Sheet → Type 0
OpenedAsFile (Ok u) memory file s t = Accepted memory file s t
OpenedAsFile (Err e) memory file s t = Refused memory file e s t

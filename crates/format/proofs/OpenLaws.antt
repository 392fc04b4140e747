use Rattle.std.proofs.Common.{◌≡◌, ℕ, List, Ok, Err, Result, arith}
use Rattle.refusal.specs.declared.Refusal.{Refusal}
use Rattle.sheet.specs.declared.sheet.Sheet.{Sheet}
use Rattle.sheet.specs.Openings.{opened_from}
use Rattle.sheet.specs.Sheets.{Opened}
use Rattle.format.specs.Openings.{OpenedAsFile}
use Rattle.format.proofs.Exact.{opening_exact}

-- an opening, in the words of the format
pub opened_as_file : (r : Result (Unit {0}) Refusal) (memory : ℕ) (file : List ℕ) (s t : Sheet) → Opened r (opened_from memory file) s t → OpenedAsFile r memory file s t
opened_as_file (Ok u) memory file s t o = record { contents = o.0; is = (opening_exact memory file o.0.header o.0.rows).0 o.1; opened = o.1; holds = o.2 }
opened_as_file (Err e) memory file s t o =
    record {
      none = λ h rows f. let p = (opening_exact memory file h rows).1 f in let q = o.0 in let z : ◌≡◌ {A = ℕ} 0 1 = cc in omega arith;
      first = o.0;
      unchanged = o.1;
    }

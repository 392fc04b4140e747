use Rattle.std.specs.Prelude.{ℕ, ◌+◌, cond, List, [], ◌∷◌, length, Some, None, Ok, Err, Option, Result, nat_lt}
use Rattle.refusal.specs.declared.Refusal.{Refusal}
use Rattle.refusal.specs.declared.Refusal.TheVariants.{TooLong}
use Rattle.lines.specs.Texts.{Ending, Text, text_of, ending_refusal}
use Rattle.reading.specs.declared.scan.Scan.{Scan}
use Rattle.reading.specs.declared.stage.Part.{Part}
use Rattle.reading.specs.Scans.{started, on_ok, line_step}
use Rattle.reading.specs.Ends.{end_refusal}

-- where the text ends, after n lines
abbrev pub scan_end_by : Scan → ℕ → Option Refusal → Result Scan Refusal
scan_end_by s n None = on_ok (end_refusal s n) s
scan_end_by s n (Some e) = Err e

abbrev pub on_scan : Result Scan Refusal → (Scan → Result Scan Refusal) → Result Scan Refusal
on_scan (Ok s) go = go s
on_scan (Err e) go = Err e

-- each line in turn, and then the end; n lines came before
abbrev pub scan_lines : ℕ → List (List ℕ) → Ending → Scan → Result Scan Refusal
scan_lines n [] e s = scan_end_by s n (ending_refusal (n + 1) e)
scan_lines n (l ∷ ls) e s = on_scan (line_step (n + 1) l s) (λ t. scan_lines (n + 1) ls e t)

abbrev pub scan_from : ℕ → Text → Scan → Result Scan Refusal
scan_from n t s = scan_lines n t.lines t.ending s

-- the longest file or block
abbrev pub longest_text : ℕ
longest_text = 2097152

-- the length first, then the lines
abbrev pub scan_of : Part → Option ℕ → List ℕ → Result Scan Refusal
scan_of p room bs = cond (nat_lt longest_text (length bs)) (Err (TooLong 0)) (scan_from 0 (text_of bs) (started p room))

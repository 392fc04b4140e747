use Rattle.shifts.proofs.Stacked.{stacked_shifts}
use Rattle.runs.proofs.PlainAgrees.{plain_sheet_agrees}
use Rattle.runs.proofs.Reopening.{reopening_agrees}
use Rattle.runs.proofs.sheets_agree.Goals as goal

pub returns : goal.returns
returns c = record { reopening = reopening_agrees; plain = plain_sheet_agrees; shifts = stacked_shifts }

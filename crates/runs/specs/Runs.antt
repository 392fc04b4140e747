-- Runs of calls, one upon the result of another, made of what the contracts of the calls state.
use Rattle.std.specs.Prelude.{List, [], ◌∷◌}
use Rattle.edits.specs.Checks.{Answer}
use Rattle.sheet.specs.States.{View}
use Rattle.sheet.specs.Calls.{FileOpened, Pasted, CutOut, Undone}
use Rattle.runs.specs.Plain.{Call, opens, pastes, cuts, undoes}

-- one call of a sheet
abbrev pub Step : View → Call → Answer → View → Type 0
Step v (opens file) a w = FileOpened v file a w
Step v (pastes block) a w = Pasted v block a w
Step v (cuts day micros end_day end_micros) a w = CutOut v day micros end_day end_micros a w
Step v undoes a w = Undone v a w

-- the calls of a run, with their answers, from one view of the sheet to another
pub data Run : View → List Call → List Answer → View → Type 0 where
  done : {v : View} → Run v [] [] v
  call : {v w x : View} {c : Call} {a : Answer} {cs : List Call} {answers : List Answer} → Step v c a w → Run w cs answers x → Run v (c ∷ cs) (a ∷ answers) x

-- Whatever a sheet has and whatever calls it is given, there is a run of them, and only one.
use Rattle.std.specs.Prelude.{◌≡◌, List}
use Rattle.edits.specs.Checks.{Answer}
use Rattle.sheet.specs.States.{View}
use Rattle.runs.specs.Plain.{Call}
use Rattle.runs.specs.Runs.{Run}

-- what calls come to: their answers, and the sheet after them
pub record Outcome (v : View) (cs : List Call) : Type 0 where
  pub answers : List Answer
  pub after : View
  pub run : Run v cs answers after

abbrev pub RunsExist : Type 0
RunsExist = (v : View) (cs : List Call) → Outcome v cs

abbrev pub RunsAreDetermined : Type 0
RunsAreDetermined = (v : View) (cs : List Call) (a b : Outcome v cs) → (a.answers ≡ b.answers) × (a.after ≡ b.after)

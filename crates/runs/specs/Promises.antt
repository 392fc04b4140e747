-- What holds after every run.
use Rattle.std.specs.Prelude.{◌≡◌, ℕ, false, List, [], ◌∷◌, is_ok, Some, Ok, Option}
use Rattle.model.specs.declared.Row.{Row}
use Rattle.model.specs.declared.header.Header.{Header}
use Rattle.writing.specs.Files.{canonical}
use Rattle.tables.specs.Windows.{window_if}
use Rattle.edits.specs.Checks.{Answer}
use Rattle.closed_sheet.specs.Answers.{cells_answer, file_answer, after_file}
use Rattle.sheet.specs.States.{State, View, entries_in, empty_view}
use Rattle.sheet.specs.Calls.{FileOpened, Undone}
use Rattle.runs.specs.Plain.{Before, Plain, Call, opens, pastes, cuts, undoes, plain_entries, empty_plain, plain_after, plain_answers}
use Rattle.runs.specs.Runs.{Run}

-- what a user sees of a header and rows: these, the cells, the file written to any output, the window at every instant
pub record Same (h g : Option Header) (rows others : List Row) : Type 0 where
  pub header : h ≡ g
  pub rows_are : rows ≡ others
  pub cells : cells_answer h rows ≡ cells_answer g others
  pub written : (out : List ℕ) → file_answer h rows out ≡ file_answer g others out
  pub output : (out : List ℕ) → after_file h rows out ≡ after_file g others out
  pub windows : (day micros : ℕ) → window_if rows day micros ≡ window_if others day micros

abbrev pub SameContents : State → State → Type 0
SameContents s t = Same s.header t.header s.rows t.rows

-- REOPENING AGREES

-- openings, pastes and cuts
abbrev pub Onward : Call → Type 0
Onward (opens file) = Unit {0}
Onward (pastes block) = Unit {0}
Onward (cuts day micros end_day end_micros) = Unit {0}
Onward undoes = ⊥

abbrev pub AllOnward : List Call → Type 0
AllOnward [] = Unit {0}
AllOnward (c ∷ cs) = Onward c × AllOnward cs

-- whatever openings, pastes and cuts two sheets get, their answers are the same, and so is what a user sees
abbrev pub AgreeFrom : View → View → Type 0
AgreeFrom v w =
    (cs : List Call) (answers others : List Answer) (x y : View) → AllOnward cs → Run v cs answers x → Run w cs others y → (answers ≡ others) × SameContents x.state y.state

-- when a file is open after a run, a new sheet of the same sizes accepts the canonical file, and the two agree from then on
abbrev pub ReopeningAgrees : Type 0
ReopeningAgrees =
    (room hold : ℕ) (cs : List Call) (answers : List Answer) (v : View) → Run (empty_view room hold) cs answers v
    → (h : Header) → v.state.header ≡ Some h
    → (a : Answer) (w : View) → FileOpened (empty_view room hold) (canonical h v.state.rows) a w → (a ≡ Ok tt) × AgreeFrom v w

-- THE PLAIN SHEET AGREES

-- an undo where these edits are not yet taken back: accepted when there is one, and then header and rows are as before the newest
abbrev pub UndoneTo : List Before → View → Answer → View → Type 0
UndoneTo [] v a w = (is_ok a ≡ false) × (w ≡ v)
UndoneTo (b ∷ bs) v a w = (a ≡ Ok tt) × Same w.state.header b.header w.state.rows b.rows

pub record Alike (v : View) (p : Plain) : Type 0 where
  pub contents : SameContents v.state p.state
  pub journal : entries_in v ≡ plain_entries p
  pub changes : v.state.changes ≡ p.state.changes
  pub undo : (a : Answer) (w : View) → Undone v a w → UndoneTo p.journal v a w

-- given the same calls, the plain sheet gave the same answers and is alike
pub record AsPlain (given : List Answer) (v : View) (p : Plain) (cs : List Call) : Type 0 where
  pub answers : given ≡ plain_answers p cs
  pub alike : Alike v (plain_after p cs)

abbrev pub PlainSheetAgrees : Type 0
PlainSheetAgrees =
    (room hold : ℕ) (cs : List Call) (answers : List Answer) (v : View) → Run (empty_view room hold) cs answers v → AsPlain answers v (empty_plain room hold) cs

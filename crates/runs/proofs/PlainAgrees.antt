-- After every run the sheet is as the plain sheet, and undo puts back what that keeps.
use Rattle.std.proofs.Common.{◌≡◌, ℕ, Bool, true, false, not, List, [], ◌∷◌, is_ok, Ok, Err, Option, sym, refl, ap, ◌∙◌, subst, MatchResult}
use Rattle.std.proofs.lemmas.Bool.{cond-false, not_from_true, false≢true}
use Rattle.refusal.specs.declared.Refusal.TheVariants.{NoFileOpen, JournalEmpty}
use Rattle.model.specs.declared.Row.{Row}
use Rattle.model.specs.declared.header.Header.{Header}
use Rattle.tables.specs.Windows.{window_if}
use Rattle.edits.specs.Checks.{Answer, rules}
use Rattle.closed_sheet.specs.Answers.{cells_answer, file_answer, after_file}
use Rattle.sheet.specs.States.{State, View, is_open, undo_answer}
use Rattle.sheet.specs.Calls.{Restored, Undone}
use Rattle.runs.specs.Plain.{Before, Plain, undoes, on_answer, undone, empty_plain, plain_after, plain_answer}
use Rattle.runs.specs.Promises.{Same, UndoneTo, PlainSheetAgrees}
use Rattle.runs.proofs.Simulation.{Sim, turn, chain_entries, from_new}

-- what a user sees is decided by header and rows
pub same_from : {h g : Option Header} {rows others : List Row} → h ≡ g → rows ≡ others → Same h g rows others
same_from e f =
    record {
      header = e;
      rows_are = f;
      cells = λ i. cells_answer (e i) (f i);
      written = λ out i. file_answer (e i) (f i) out;
      output = λ out i. after_file (e i) (f i) out;
      windows = λ day micros i. window_if (f i) day micros;
    }

-- no edit to take back: refused, whether a file is open or not
refused_none : (s : State) → is_ok (undo_answer s []) ≡ false
refused_none s = by_open (is_open s.header)
  where
    by_open : (b : Bool) → is_ok (rules ((not b, NoFileOpen) ∷ (true, JournalEmpty) ∷ [])) ≡ false
    by_open true = refl
    by_open false = refl

not_ok : (v w : View) (a : Answer) → is_ok a ≡ false → MatchResult a (λ _. Restored v w) (λ _. w ≡ v) → w ≡ v
not_ok v w (Ok x) h c = absurd (false≢true (sym h))
not_ok v w (Err e) h c = c

undone_to : (room hold : ℕ) (v : View) (s : State) (bs : List Before) → Sim room hold v (record { state = s; journal = bs }) → (a : Answer) (w : View) → Undone v a w → UndoneTo bs v a w
undone_to room hold v s [] q a w u =
    let t = turn room hold v (record { state = s; journal = [] }) w a undoes q u in
    let n : is_ok a ≡ false = ap is_ok t.answer ∙ refused_none s in
    (n, not_ok v w a n u.after)
undone_to room hold v s (b ∷ bs) q a w u =
    let p : Plain = record { state = s; journal = b ∷ bs } in
    let t = turn room hold v p w a undoes q u in
    let e : plain_answer p undoes ≡ Ok tt = cond-false (not (is_open s.header)) (Err NoFileOpen) (Ok tt) (not_from_true (is_open s.header) (q.used refl)) in
    let z : Sim room hold w (undone s (b ∷ bs)) = subst (λ (k : Answer). Sim room hold w (on_answer k (undone s (b ∷ bs)) p)) e t.after in
    (t.answer ∙ e, same_from (ap (λ (k : State). k.header) z.state) (ap (λ (k : State). k.rows) z.state))

pub plain_sheet_agrees : PlainSheetAgrees
plain_sheet_agrees room hold cs answers v r =
    let p = plain_after (empty_plain room hold) cs in
    let u = from_new room hold cs answers v r in
    let q = u.after in
    let e = q.state in
    record {
      answers = u.answers;
      alike = record {
        contents = same_from (ap (λ (k : State). k.header) e) (ap (λ (k : State). k.rows) e);
        journal = chain_entries p.state.rows v.journal p.journal q.chain;
        changes = ap (λ (k : State). k.changes) e;
        undo = undone_to room hold v p.state p.journal q;
      };
    }

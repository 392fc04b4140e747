-- Each call has an outcome, and only one.
use Rattle.std.proofs.Common.{◌≡◌, ℕ, ◌≤◌, min, Bool, not, List, [], ◌∷◌, map, length, take, None, Ok, Err, Result, sym, refl, ap, ◌∙◌, subst, MatchResult}
use Rattle.std.proofs.lemmas.Bool.{ltb-false, false≢true}
use Rattle.refusal.specs.declared.Refusal.{Refusal}
use Rattle.refusal.specs.declared.Refusal.TheVariants.{NoFileOpen, JournalEmpty}
use Rattle.model.specs.declared.Row.{Row}
use Rattle.reading.specs.declared.scan.Scan.{Scan}
use Rattle.reading.specs.declared.stage.Part.TheVariants.{Block}
use Rattle.reading.specs.Texts.{scan_of}
use Rattle.reading.specs.Stores.{rows_in}
use Rattle.edits.specs.Changes.{Change, restored}
use Rattle.edits.specs.Checks.{Answer, rules, none, joined, paste_of, paste_rules, paste_by, paste_checks, cut_of, cut_rules, cut_checks}
use Rattle.sheet.specs.Openings.{opened_from}
use Rattle.sheet.specs.States.{Past, View, entry_of, entries_in, changed, is_open, open_answer, paste_answer, cut_answer, undo_answer}
use Rattle.sheet.specs.Calls.{after_opening, Edited, Restored}
use Rattle.runs.specs.Plain.{Call, opens, pastes, cuts, undoes, staying}
use Rattle.runs.specs.Runs.{Step, Run, done, call}
use Rattle.runs.specs.Outcomes.{RunsExist, RunsAreDetermined}
use Rattle.runs.proofs.Keeping.{kept, keeps}
use Rattle.runs.proofs.Fits.{passed, with_file_lem}

-- AN OUTCOME

record OutcomeOf (v : View) (c : Call) : Type 0 where
  answer : Answer
  after : View
  step : Step v c answer after

-- what a paste and a cut take out fits the memory for it
paste_hold : (room hold : ℕ) (rows block : List Row) (r : Result Scan Refusal) → paste_by room hold rows block r ≡ Ok tt → length (paste_of block rows).out ≤ hold
paste_hold room hold rows block (Err e) p = absurd (cc)
paste_hold room hold rows block (Ok u) p = ltb-false hold (length (paste_of block rows).out) (passed (paste_rules room hold rows block (paste_of block rows)) p).1.1.1.0

cut_hold : (hold : ℕ) (inside : Bool) (c : Change) → rules (cut_rules hold inside c) ≡ Ok tt → length c.out ≤ hold
cut_hold hold inside c p = ltb-false hold (length c.out) (passed (cut_rules hold inside c) p).1.1.1.0

-- an edit with the most entries that may stay
abbrev edit_after : View → Change → View
edit_after v c =
    record {
      state = changed v.state c.rows;
      journal = record { entry = c.entry; out = c.out } ∷ take (staying v.state.hold (length c.out) (entries_in v) (min 15 (length (entries_in v)))) v.journal;
    }

edit_made : (v : View) (c : Change) → length c.out ≤ v.state.hold → Edited v c (edit_after v c)
edit_made v c l = record { kept = _; keeps = keeps v.state.hold (length c.out) (entries_in v) l; state = refl; journal = refl }

paste_by_lem : (v : View) (block : List ℕ) (a : Answer) → a ≡ paste_answer v.state block → OutcomeOf v (pastes block)
paste_by_lem v block (Err e) p = record { answer = Err e; after = v; step = record { answer = p; after = refl } }
paste_by_lem v block (Ok u) p =
    let s = v.state in
    let q = with_file_lem (is_open s.header) NoFileOpen (paste_checks s.room s.hold s.rows block) (sym p) in
    let c = paste_of (rows_in block) s.rows in
    record { answer = Ok tt; after = edit_after v c; step = record { answer = p; after = edit_made v c (paste_hold s.room s.hold s.rows (rows_in block) (scan_of Block None block) q.1) } }

cut_by : (v : View) (day micros end_day end_micros : ℕ) (a : Answer) → a ≡ cut_answer v.state day micros end_day end_micros → OutcomeOf v (cuts day micros end_day end_micros)
cut_by v day micros end_day end_micros (Err e) p = record { answer = Err e; after = v; step = record { answer = p; after = refl } }
cut_by v day micros end_day end_micros (Ok u) p =
    let s = v.state in
    let q = with_file_lem (is_open s.header) NoFileOpen (cut_checks s.hold s.rows day micros end_day end_micros) (sym p) in
    let c = cut_of (joined day micros) (joined end_day end_micros) s.rows in
    record { answer = Ok tt; after = edit_after v c; step = record { answer = p; after = edit_made v c (cut_hold s.hold _ c q.1) } }

-- an accepted undo has an edit to take back
undo_by : (v : View) (es : List Past) → v.journal ≡ es → (a : Answer) → a ≡ undo_answer v.state (entries_in v) → OutcomeOf v undoes
undo_by v es j (Err e) p = record { answer = Err e; after = v; step = record { answer = p; after = refl } }
undo_by v [] j (Ok u) p =
    let h = is_open v.state.header in
    let q = passed ((not h, NoFileOpen) ∷ (none (entries_in v), JournalEmpty) ∷ []) (sym p) in
    absurd (false≢true (sym q.1.0 ∙ ap (λ (z : List Past). none (map entry_of z)) j))
undo_by v (e ∷ es) j (Ok u) p =
    let s = v.state in
    record {
      answer = Ok tt;
      after = record { state = changed s (restored e.entry e.out s.rows); journal = es };
      step = record { answer = p; after = record { newest = e; older = es; was = j; state = refl; journal = refl } };
    }

outcome : (v : View) (c : Call) → OutcomeOf v c
outcome v (opens file) = record { answer = open_answer v.state file; after = after_opening v (opened_from v.state.room file); step = record { answer = refl; after = refl } }
outcome v (pastes block) = paste_by_lem v block (paste_answer v.state block) refl
outcome v (cuts day micros end_day end_micros) = cut_by v day micros end_day end_micros (cut_answer v.state day micros end_day end_micros) refl
outcome v undoes = undo_by v v.journal refl (undo_answer v.state (entries_in v)) refl

pub runs_exist : RunsExist
runs_exist v [] = record { answers = []; after = v; run = done }
runs_exist v (c ∷ cs) =
    let o = outcome v c in
    let r = runs_exist o.after cs in
    record { answers = o.answer ∷ r.answers; after = r.after; run = call {c = c} o.step r.run }

-- NO OTHER

view_is : (w x : View) → w.state ≡ x.state → w.journal ≡ x.journal → w ≡ x
view_is w x e f = λ i. record { state = e i; journal = f i }

edit_one : (v : View) (c : Change) (w x : View) → Edited v c w → Edited v c x → w ≡ x
edit_one v c w x e f =
    let k = kept v.state.hold (length c.out) (entries_in v) e.kept e.keeps in
    let m = kept v.state.hold (length c.out) (entries_in v) f.kept f.keeps in
    let n : Past = record { entry = c.entry; out = c.out } in
    view_is w x (e.state ∙ sym f.state) (e.journal ∙ ap (λ z. n ∷ take z v.journal) (k ∙ sym m) ∙ sym f.journal)

undo_one : (v w x : View) → Restored v w → Restored v x → w ≡ x
undo_one v w x e f =
    let j = sym e.was ∙ f.was in
    let n : e.newest ≡ f.newest = cc in
    let o : e.older ≡ f.older = cc in
    view_is w x (e.state ∙ ap (λ (z : Past). changed v.state (restored z.entry z.out v.state.rows)) n ∙ sym f.state) (e.journal ∙ o ∙ sym f.journal)

by_answer : {P P' : Type 0} (v w x : View) (a b : Answer) → a ≡ b → MatchResult a (λ _. P) (λ _. w ≡ v) → MatchResult b (λ _. P') (λ _. x ≡ v) → (P → P' → w ≡ x) → w ≡ x
by_answer v w x (Ok t) (Ok u) e p q f = f p q
by_answer v w x (Ok t) (Err u) e p q f = absurd (cc)
by_answer v w x (Err t) (Ok u) e p q f = absurd (cc)
by_answer v w x (Err t) (Err u) e p q f = p ∙ sym q

one : (v : View) (c : Call) (a b : Answer) (w x : View) → Step v c a w → Step v c b x → (a ≡ b) × (w ≡ x)
one v (opens file) a b w x s t = (s.answer ∙ sym t.answer, s.after ∙ sym t.after)
one v (pastes block) a b w x s t =
    let e = s.answer ∙ sym t.answer in
    (e, by_answer v w x a b e s.after t.after (edit_one v (paste_of (rows_in block) v.state.rows) w x))
one v (cuts day micros end_day end_micros) a b w x s t =
    let e = s.answer ∙ sym t.answer in
    (e, by_answer v w x a b e s.after t.after (edit_one v (cut_of (joined day micros) (joined end_day end_micros) v.state.rows) w x))
one v undoes a b w x s t =
    let e = s.answer ∙ sym t.answer in
    (e, by_answer v w x a b e s.after t.after (undo_one v w x))

one_run : {v : View} {cs : List Call} {given : List Answer} {w : View} → Run v cs given w → {u : View} {others : List Answer} {x : View} → Run u cs others x → v ≡ u → (given ≡ others) × (w ≡ x)
one_run done done e = (refl, e)
one_run (call {v} {w} {c = c} {a = a} {answers = given} s r) (call {v = u} {w = x} {a = b} {answers = others} t q) e =
    let h = one u c a b w x (subst (λ z. Step z c a w) e s) t in
    let k = one_run r q h.1 in
    let f = h.0 in
    let g = k.0 in
    (cc, k.1)

pub runs_are_determined : RunsAreDetermined
runs_are_determined v cs a b = one_run a.run b.run refl

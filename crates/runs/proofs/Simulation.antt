-- The sheet and the plain sheet, call by call.
use Rattle.std.proofs.Common.{◌≡◌, ℕ, zero, suc, min, true, false, not, List, [], ◌∷◌, map, length, take, Ok, Err, Option, Result, sym, refl, ap, ◌∙◌, subst, MatchResult}
use lib.ListN.{length-map}
use Rattle.std.proofs.lemmas.Bool.{not-false, false≢true}
use Rattle.refusal.specs.declared.Refusal.{Refusal}
use Rattle.refusal.specs.declared.Refusal.TheVariants.{NoFileOpen, JournalEmpty}
use Rattle.model.specs.declared.Row.{Row}
use Rattle.model.specs.declared.header.Header.{Header}
use Rattle.reading.specs.Stores.{rows_in}
use Rattle.journal.specs.declared.journal.Edit.{Edit}
use Rattle.journal.specs.declared.journal.Edit.TheVariants.{Paste, Cut}
use Rattle.edits.specs.Changes.{change_of, restored, first_moment, last_moment}
use Rattle.edits.specs.Checks.{Answer, none, joined, paste_checks, cut_checks}
use Rattle.edits.proofs.Parts as parts
use Rattle.sheet.specs.Openings.{Contents, opened_from}
use Rattle.sheet.specs.States.{State, Past, View, entry_of, empty_view, changed, accepted, is_open, undo_answer}
use Rattle.sheet.specs.Calls.{after_opening, Edited, Pasted, CutOut, Undone}
use Rattle.runs.specs.Plain.{Before, Plain, entry_before, empty_plain, Call, opens, pastes, cuts, undoes, plain_answer, staying, edited, opened, put_back, undone, taking, on_answer, plain_next, plain_after, plain_answers}
use Rattle.runs.specs.Runs.{Step, Run, done, call}
use Rattle.runs.proofs.Keeping.{kept}
use Rattle.runs.proofs.GoodEdits.{good_parts}
use Rattle.runs.proofs.Fits.{Fit, Fitting, passed, with_file_lem, opened_fits, paste_fits, cut_fits}

-- what the plain sheet keeps has the header that is open, and fits
abbrev pub AllFit : ℕ → Option Header → List Before → Type 0
AllFit room h [] = Unit {0}
AllFit room h (b ∷ bs) = (b.header ≡ h) × Fit room h b.rows × AllFit room h bs

-- each edit of the sheet, taken back, gives what the plain sheet keeps
abbrev pub Chain : List Row → List Past → List Before → Type 0
Chain rows [] [] = Unit {0}
Chain rows [] (b ∷ bs) = ⊥
Chain rows (e ∷ es) [] = ⊥
Chain rows (e ∷ es) (b ∷ bs) = (e.entry ≡ b.entry) × (restored e.entry e.out rows ≡ b.rows) × Chain b.rows es bs

pub record Sim (room hold : ℕ) (v : View) (p : Plain) : Type 0 where
  pub state : v.state ≡ p.state
  pub room_is : p.state.room ≡ room
  pub hold_is : p.state.hold ≡ hold
  pub chain : Chain p.state.rows v.journal p.journal
  pub fits : is_open p.state.header ≡ true → Fit room p.state.header p.state.rows
  pub past : AllFit room p.state.header p.journal
  pub used : none p.journal ≡ false → is_open p.state.header ≡ true

chain_take : (k : ℕ) (rows : List Row) (es : List Past) (bs : List Before) → Chain rows es bs → Chain rows (take k es) (take k bs)
chain_take zero rows es bs c = tt
chain_take (suc k) rows [] [] c = tt
chain_take (suc k) rows [] (b ∷ bs) c = absurd c
chain_take (suc k) rows (e ∷ es) [] c = absurd c
chain_take (suc k) rows (e ∷ es) (b ∷ bs) c = (c.0, c.1, chain_take k b.rows es bs c.2)

pub chain_entries : (rows : List Row) (es : List Past) (bs : List Before) → Chain rows es bs → map entry_of es ≡ map entry_before bs
chain_entries rows [] [] c = refl
chain_entries rows [] (b ∷ bs) c = absurd c
chain_entries rows (e ∷ es) [] c = absurd c
chain_entries rows (e ∷ es) (b ∷ bs) c = let x = c.0 in let y = chain_entries b.rows es bs c.2 in cc

all_take : (room : ℕ) (h : Option Header) (k : ℕ) (bs : List Before) → AllFit room h bs → AllFit room h (take k bs)
all_take room h zero bs c = tt
all_take room h (suc k) [] c = tt
all_take room h (suc k) (b ∷ bs) c = (c.0, c.1, all_take room h k bs c.2)

-- from what an accepted call does and what a refused one does
on_answer_lem : {P : Type 0} {Q : Type 0} (S : Plain → Type 0) (a b : Answer) (yes' no' : Plain) → a ≡ b → MatchResult a (λ _. P) (λ _. Q) → (b ≡ Ok tt → P → S yes') → (Q → S no') → S (on_answer b yes' no')
on_answer_lem S (Ok x) b yes' no' e c f g = subst (λ z. S (on_answer z yes' no')) e (f (sym e) c)
on_answer_lem S (Err x) b yes' no' e c f g = subst (λ z. S (on_answer z yes' no')) e (g c)

module _ (hold : ℕ) (s : State) (es : List Past) (bs : List Before) (q : Sim s.room hold (record { state = s; journal = es }) (record { state = s; journal = bs })) where
  abbrev V : View
  V = record { state = s; journal = es }

  abbrev P : Plain
  P = record { state = s; journal = bs }

  abbrev After : View → Plain → Type 0
  After = Sim s.room hold

  same : (w : View) → w ≡ V → After w P
  same w e = subst (λ u. After u P) (sym e) q

  entries : map entry_of es ≡ map entry_before bs
  entries = chain_entries s.rows es bs q.chain

  edit_sim : (w : View) (k : Edit) (x y : ℕ) (block : List Row) → is_open s.header ≡ true → Fitting s.room s.header x y (change_of k x y block s.rows).rows
      → Edited V (change_of k x y block s.rows) w → After w (edited P (change_of k x y block s.rows))
  edit_sim w k x y block o g e =
      let c = change_of k x y block s.rows in
      let n : Past = record { entry = c.entry; out = c.out } in
      let b : Before = record { entry = c.entry; header = s.header; rows = s.rows } in
      let K = staying s.hold (length c.out) (map entry_before bs) (min 15 (length bs)) in
      let j : e.kept ≡ K =
      kept s.hold (length c.out) (map entry_of es) e.kept e.keeps
      ∙ ap (λ z. staying s.hold (length c.out) z (min 15 (length z))) entries
      ∙ ap (λ t. staying s.hold (length c.out) (map entry_before bs) (min 15 t)) (length-map bs entry_before) in
      let l : w.journal ≡ n ∷ take K es = e.journal ∙ ap (λ t. n ∷ take t es) j in
      let back = parts.undone k x y block s.rows g.ordered (good_parts s.rows (q.fits o).rows_good).order in
      record {
        state = e.state;
        room_is = refl;
        hold_is = q.hold_is;
        chain = subst (λ t. Chain c.rows t (b ∷ take K bs)) (sym l) (refl, back, chain_take K s.rows es bs q.chain);
        fits = λ _. g.fits;
        past = (refl, q.fits o, all_take s.room s.header K bs q.past);
        used = λ _. o;
      }

  opened_sim : (w : View) (file : List ℕ) (r : Result Contents Refusal) → opened_from s.room file ≡ r → w ≡ after_opening V r → After w (on_answer (accepted r) (opened P r) P)
  opened_sim w file (Err e) p u = same w u
  opened_sim w file (Ok c) p u =
      record {
        state = ap (λ (z : View). z.state) u;
        room_is = refl;
        hold_is = q.hold_is;
        chain = subst (λ t. Chain c.rows t []) (sym (ap (λ (z : View). z.journal) u)) tt;
        fits = λ _. opened_fits s.room file c p;
        past = tt;
        used = λ _. refl;
      }

  paste_sim : (w : View) (block : List ℕ) (a : Answer) → Pasted V block a w → After w (plain_next P (pastes block))
  paste_sim w block a t =
      on_answer_lem (After w) a (plain_answer P (pastes block)) (taking P (pastes block)) P t.answer t.after
      (λ e z.
      let p = with_file_lem (is_open s.header) NoFileOpen (paste_checks s.room s.hold s.rows block) e in
      let B = rows_in block in
      edit_sim w Paste (first_moment B) (last_moment B) B p.0 (paste_fits s.room s.hold s.header s.rows (q.fits p.0) block p.1) z)
      (same w)

  cut_sim : (w : View) (day micros end_day end_micros : ℕ) (a : Answer) → CutOut V day micros end_day end_micros a w → After w (plain_next P (cuts day micros end_day end_micros))
  cut_sim w day micros end_day end_micros a t =
      on_answer_lem (After w) a (plain_answer P (cuts day micros end_day end_micros)) (taking P (cuts day micros end_day end_micros)) P t.answer t.after
      (λ e z.
      let p = with_file_lem (is_open s.header) NoFileOpen (cut_checks s.hold s.rows day micros end_day end_micros) e in
      edit_sim w Cut (joined day micros) (joined end_day end_micros) [] p.0 (cut_fits s.room s.hold s.header s.rows (q.fits p.0) _ (joined day micros) (joined end_day end_micros) p.1) z)
      (same w)

  undo_answer_lem : (a : Answer) → a ≡ undo_answer s (map entry_of es) → a ≡ undo_answer s (map entry_before bs)
  undo_answer_lem a e = e ∙ ap (undo_answer s) entries

-- the newest edit of both is taken back
back_sim : (hold : ℕ) (s : State) (e : Past) (es : List Past) (bs : List Before) → s.hold ≡ hold → Chain s.rows (e ∷ es) bs → AllFit s.room s.header bs → is_open s.header ≡ true
    → (w : View) → w.state ≡ changed s (restored e.entry e.out s.rows) → w.journal ≡ es → Sim s.room hold w (undone s bs)
back_sim hold s e es [] h c l o w u j = absurd c
back_sim hold s e es (b ∷ bs) h c l o w u j =
    let g : b.header ≡ s.header = l.0 in
    let same-state : changed s b.rows ≡ put_back s b = λ i. record { room = s.room; hold = s.hold; header = sym g i; rows = b.rows; changes = (changed s b.rows).changes } in
    record {
      state = u ∙ ap (changed s) c.1 ∙ same-state;
      room_is = refl;
      hold_is = h;
      chain = subst (λ z. Chain b.rows z bs) (sym j) c.2;
      fits = λ _. subst (λ z. Fit s.room z b.rows) (sym g) l.1;
      past = subst (λ z. AllFit s.room z bs) (sym g) l.2;
      used = λ _. ap is_open g ∙ o;
    }

-- the same answer, and alike after it
pub record Turn (room hold : ℕ) (w : View) (p : Plain) (c : Call) (a : Answer) : Type 0 where
  pub answer : a ≡ plain_answer p c
  pub after : Sim room hold w (plain_next p c)

module _ (hold : ℕ) (s : State) (es : List Past) (bs : List Before) (q : Sim s.room hold (record { state = s; journal = es }) (record { state = s; journal = bs })) where
  undo_turn : (w : View) (a : Answer) → Undone (record { state = s; journal = es }) a w → Turn s.room hold w (record { state = s; journal = bs }) undoes a
  undo_turn w a t =
      let e : a ≡ undo_answer s (map entry_before bs) = undo_answer_lem hold s es bs q a t.answer in
      record {
        answer = e;
        after =
            on_answer_lem (Sim s.room hold w) a (undo_answer s (map entry_before bs)) (undone s bs) (record { state = s; journal = bs }) e t.after
            (λ k z.
            let o = not-false (is_open s.header) (passed ((not (is_open s.header), NoFileOpen) ∷ (none (map entry_before bs), JournalEmpty) ∷ []) k).0 in
            back_sim hold s z.newest z.older bs q.hold_is (subst (λ j. Chain s.rows j bs) z.was q.chain) q.past o w z.state z.journal)
            (same hold s es bs q w);
      }

  turn_at : (w : View) (a : Answer) (c : Call) → Step (record { state = s; journal = es }) c a w → Turn s.room hold w (record { state = s; journal = bs }) c a
  turn_at w a (opens file) t = record { answer = t.answer; after = opened_sim hold s es bs q w file (opened_from s.room file) refl t.after }
  turn_at w a (pastes block) t = record { answer = t.answer; after = paste_sim hold s es bs q w block a t }
  turn_at w a (cuts day micros end_day end_micros) t = record { answer = t.answer; after = cut_sim hold s es bs q w day micros end_day end_micros a t }
  turn_at w a undoes t = undo_turn w a t

pub turn : (room hold : ℕ) (v : View) (p : Plain) (w : View) (a : Answer) (c : Call) → Sim room hold v p → Step v c a w → Turn room hold w p c a
turn room hold v p w a c q t =
    let s = p.state in
    let V : State → View = λ z. record { state = z; journal = v.journal } in
    let k : Sim s.room hold (V s) p = subst (λ z. Sim z hold (V s) p) (sym q.room_is) (subst (λ z. Sim room hold (V z) p) q.state q) in
    subst (λ z. Turn z hold w p c a) q.room_is (turn_at hold s v.journal p.journal k w a c (subst (λ z. Step (V z) c a w) q.state t))

-- RUNS

pub record Whole (room hold : ℕ) (given : List Answer) (w : View) (p : Plain) (cs : List Call) : Type 0 where
  pub answers : given ≡ plain_answers p cs
  pub after : Sim room hold w (plain_after p cs)

pub whole : (room hold : ℕ) {v : View} {cs : List Call} {given : List Answer} {w : View} → Run v cs given w → (p : Plain) → Sim room hold v p → Whole room hold given w p cs
whole room hold done p q = record { answers = refl; after = q }
whole room hold (call {v} {w} {x} {c} {a} {cs} {answers} t r) p q =
    let u = turn room hold v p w a c q t in
    let k = whole room hold r (plain_next p c) u.after in
    let e = u.answer in
    let g = k.answers in
    record { answers = cc; after = k.after }

at_first : (room hold : ℕ) → Sim room hold (empty_view room hold) (empty_plain room hold)
at_first room hold = record { state = refl; room_is = refl; hold_is = refl; chain = tt; fits = λ e. absurd (false≢true e); past = tt; used = λ e. absurd (false≢true (sym e)) }

pub from_new : (room hold : ℕ) (cs : List Call) (given : List Answer) (v : View) → Run (empty_view room hold) cs given v → Whole room hold given v (empty_plain room hold) cs
from_new room hold cs given v r = whole room hold r (empty_plain room hold) (at_first room hold)

-- Two sheets of the same sizes, header and rows, whatever their journals and change counts are.
use Rattle.std.proofs.Common.{◌≡◌, true, List, Some, Ok, Err, Result, sym, refl, ap, ◌∙◌, subst, MatchResult}
use Rattle.refusal.specs.declared.Refusal.{Refusal}
use Rattle.writing.specs.Files.{canonical}
use Rattle.reading.specs.Stores.{rows_in}
use Rattle.edits.specs.Checks.{Answer, joined, paste_of, cut_of}
use Rattle.sheet.specs.Openings.{Contents, opened_from}
use Rattle.sheet.specs.States.{State, View, empty_state, empty_view, with_file, changed, accepted, is_open, open_answer, paste_answer, cut_answer}
use Rattle.sheet.specs.Calls.{after_opening}
use Rattle.round_trip.proofs.FileLaws.{files_read_back}
use Rattle.runs.specs.Plain.{Call, opens, pastes, cuts, undoes}
use Rattle.runs.specs.Runs.{Step, Run, done, call}
use Rattle.runs.specs.Promises.{Onward, AllOnward, ReopeningAgrees}
use Rattle.runs.proofs.Fits.{Fit}
use Rattle.runs.proofs.Simulation.{from_new}
use Rattle.runs.proofs.PlainAgrees.{same_from}

-- all but the change count
abbrev still : State → State
still s = record { room = s.room; hold = s.hold; header = s.header; rows = s.rows; changes = 0 }

abbrev still_opened : State → Result Contents Refusal → State
still_opened s (Ok c) = with_file s c
still_opened s (Err e) = s

opened_still : (v : View) (r : Result Contents Refusal) → still (after_opening v r).state ≡ still_opened (still v.state) r
opened_still v (Ok c) = refl
opened_still v (Err e) = refl

on_both : {P Q P' Q' : Type 0} (R : Type 0) (a b : Answer) → a ≡ b → MatchResult a (λ _. P) (λ _. Q) → MatchResult b (λ _. P') (λ _. Q') → (P → P' → R) → (Q → Q' → R) → R
on_both R (Ok x) (Ok y) e c d f g = f c d
on_both R (Ok x) (Err y) e c d f g = absurd (cc)
on_both R (Err x) (Ok y) e c d f g = absurd (cc)
on_both R (Err x) (Err y) e c d f g = g c d

record Twins (v w : View) (a b : Answer) : Type 0 where
  pub answer : a ≡ b
  pub after : still v.state ≡ still w.state

module _ (v w v' w' : View) (a b : Answer) (t : still v.state ≡ still w.state) where
  refused : v' ≡ v → w' ≡ w → still v'.state ≡ still w'.state
  refused e g = ap (λ (u : View). still u.state) e ∙ t ∙ sym (ap (λ (u : View). still u.state) g)

  twins : (c : Call) → Onward c → Step v c a v' → Step w c b w' → Twins v' w' a b
  twins (opens file) o s z =
      let after : (u u' : View) → u' ≡ after_opening u (opened_from u.state.room file) → still u'.state ≡ still_opened (still u.state) (opened_from (still u.state).room file)
      = λ u u' e. ap (λ (k : View). still k.state) e ∙ opened_still u (opened_from u.state.room file) in
      record {
        answer = s.answer ∙ ap (λ k. open_answer k file) t ∙ sym z.answer;
        after = after v v' s.after ∙ ap (λ k. still_opened k (opened_from k.room file)) t ∙ sym (after w w' z.after);
      }
  twins (pastes block) o s z =
      let e : a ≡ b = s.answer ∙ ap (λ k. paste_answer k block) t ∙ sym z.answer in
      record {
        answer = e;
        after =
            on_both (still v'.state ≡ still w'.state) a b e s.after z.after
            (λ p q. ap still p.state ∙ ap (λ k. still (changed k (paste_of (rows_in block) k.rows).rows)) t ∙ sym (ap still q.state))
            refused;
      }
  twins (cuts day micros end_day end_micros) o s z =
      let e : a ≡ b = s.answer ∙ ap (λ k. cut_answer k day micros end_day end_micros) t ∙ sym z.answer in
      record {
        answer = e;
        after =
            on_both (still v'.state ≡ still w'.state) a b e s.after z.after
            (λ p q. ap still p.state ∙ ap (λ k. still (changed k (cut_of (joined day micros) (joined end_day end_micros) k.rows).rows)) t ∙ sym (ap still q.state))
            refused;
      }
  twins undoes o s z = absurd o

record Ends (v w : View) (given others : List Answer) : Type 0 where
  pub answers : given ≡ others
  pub after : still v.state ≡ still w.state

ends : {v : View} {cs : List Call} {given : List Answer} {v' : View} → Run v cs given v' → {w : View} {others : List Answer} {w' : View} → Run w cs others w' → AllOnward cs → still v.state ≡ still w.state → Ends v' w' given others
ends done done o t = record { answers = refl; after = t }
ends (call {v} {w = v'} {x} {c} {a} {cs} {answers} s r) (call {v = w} {w = w'} {x = y} {a = b} {answers = others} z q) o t =
    let h = twins v w v' w' a b t c o.0 s z in
    let u = ends r q o.1 h.after in
    let e = h.answer in
    let g = u.answers in
    record { answers = cc; after = u.after }

pub reopening_agrees : ReopeningAgrees
reopening_agrees room hold cs answers v r h o a w s =
    let u = (from_new room hold cs answers v r).after in
    let d = u.state in
    let room_is : v.state.room ≡ room = ap (λ (k : State). k.room) d ∙ u.room_is in
    let hold_is : v.state.hold ≡ hold = ap (λ (k : State). k.hold) d ∙ u.hold_is in
    let now-open : is_open v.state.header ≡ true = ap is_open o in
    let fit-now : Fit room v.state.header v.state.rows = subst (λ (k : State). Fit room k.header k.rows) (sym d) (u.fits (ap (λ (k : State). is_open k.header) (sym d) ∙ now-open)) in
    let f : Fit room (Some h) v.state.rows = subst (λ k. Fit room k v.state.rows) o fit-now in
    let c : Contents = record { header = h; rows = v.state.rows } in
    let back : opened_from room (canonical h v.state.rows) ≡ Ok c = files_read_back room h v.state.rows f.header f.rows_good f.size in
    let after : w ≡ after_opening (empty_view room hold) (Ok c) = s.after ∙ ap (after_opening (empty_view room hold)) back in
    let t : still v.state ≡ with_file (empty_state room hold) c = λ i. record { room = room_is i; hold = hold_is i; header = o i; rows = v.state.rows; changes = 0 } in (
      s.answer ∙ ap accepted back,
      λ ks given others x y g m n.
          let e = ends m n g (t ∙ sym (ap (λ (k : View). still k.state) after)) in
          (e.answers, same_from (ap (λ (k : State). k.header) e.after) (ap (λ (k : State). k.rows) e.after)),
    )

-- What a cut answers, by the place that was found.
use Rattle.std.proofs.Common.{◌≡◌, ℕ, ◌-◌, ◌<◌, ◌≤◌, Bool, true, false, cond, not, ◌&&◌, ltb, List, [], ◌∷◌, map, length, Ok, Err, Result, sym, refl, ap, ◌∙◌, subst, arith}
use Rattle.std.proofs.lemmas.Bool.{le-ltb, lt-ltb, and_from, and_parts}
use Rattle.refusal.specs.declared.Refusal.{Refusal}
use Rattle.refusal.specs.declared.Refusal.TheVariants.{NothingToCut, CutTakesAll, TakenRowsExceed, OutsideCalendar}
use Rattle.calendar.specs.declared.instant.Instant.{Instant}
use Rattle.calendar.specs.Instants.{moment, in_calendar, instant_of, instant_if}
use Rattle.calendar.proofs.Moments.{instant_of_pair}
use Rattle.model.specs.declared.Row.{Row}
use Rattle.tables.specs.Lines.{time_of, not_after, earlier, ascends}
use Rattle.journal.specs.declared.journal.Edit.TheVariants.{Cut}
use Rattle.edits.specs.declared.place.Place.{Place}
use Rattle.edits.specs.Changes.{Change, before, behind, between}
use Rattle.edits.specs.Checks.{rules, none, flags_stay, in_order, cut_rules, cut_of, cut_checks, joined}
use Rattle.edits.specs.Places.{Ready, Decided}
use Rattle.edits.proofs.FlagLaws.{flags_without}
use Rattle.edits.proofs.RuleLaws.{accepts, refused_by, some_in, none_in}
use Rattle.edits.proofs.Parts.{split, cut_ascends}
use Rattle.edits.proofs.Placing.{Placed, placed, none_between}

pub backwards : (hold x y : ℕ) (rows : List Row) → y < x → rules (cut_rules hold true (cut_of x y rows)) ≡ Err NothingToCut
backwards hold x y rows l =
    let c = cut_of x y rows in
    refused_by ((not true, OutsideCalendar) ∷ []) (none c.out) NothingToCut ((none c.rows, CutTakesAll) ∷ (ltb hold (length c.out), TakenRowsExceed) ∷ []) (refl, tt) (ap none (none_between x y rows l))

-- the rows that a cut leaves are in order
pub cut_in_order : (x y : ℕ) (rows : List Row) → x ≤ y → in_order rows ≡ true → in_order (cut_of x y rows).rows ≡ true
cut_in_order x y rows m h =
    let p = and_parts (ascends rows) (flags_stay rows) h in
    and_from (ascends (cut_of x y rows).rows) (flags_stay (cut_of x y rows).rows) (cut_ascends Cut x y rows m p.0)
    (flags_without (before x rows) (between x y rows) (behind y rows) (ap flags_stay (split x y rows m p.0) ∙ p.1))

module _ (hold x y : ℕ) (rows : List Row) (p : Place) (m : x ≤ y) (h : in_order rows ≡ true)
    (first : p.first ≡ earlier (map time_of rows) x) (end : p.end ≡ not_after (map time_of rows) y) (put : p.put ≡ 0) where
  pub at_place : Placed Cut x y p.first p.end [] rows
  at_place = placed Cut x y p.first p.end [] rows m (and_parts (ascends rows) (flags_stay rows) h).0 first end

  abbrev c : Change
  c = cut_of x y rows

  pub nothing : p.end - p.first ≡ 0 → rules (cut_rules hold true c) ≡ Err NothingToCut
  nothing l =
      let o = at_place.out in
      refused_by ((not true, OutsideCalendar) ∷ []) (none c.out) NothingToCut ((none c.rows, CutTakesAll) ∷ (ltb hold (length c.out), TakenRowsExceed) ∷ []) (refl, tt) (none_in c.out (omega arith))

  module _ (some : 0 < p.end - p.first) where
    pub every : p.end - p.first ≡ length rows → rules (cut_rules hold true c) ≡ Err CutTakesAll
    every l =
        let o = at_place.out in
        let z = at_place.size in
        let i = at_place.inside in
        refused_by ((not true, OutsideCalendar) ∷ (none c.out, NothingToCut) ∷ []) (none c.rows) CutTakesAll ((ltb hold (length c.out), TakenRowsExceed) ∷ [])
        (refl, (some_in c.out (omega arith), tt)) (none_in c.rows (omega arith))

    module _ (left : p.end - p.first < length rows) where
      left_some : none c.rows ≡ false
      left_some = let z = at_place.size in let i = at_place.inside in let o = at_place.order in some_in c.rows (omega arith)

      pub exceeds : hold < p.end - p.first → rules (cut_rules hold true c) ≡ Err TakenRowsExceed
      exceeds l =
          let o = at_place.out in
          refused_by ((not true, OutsideCalendar) ∷ (none c.out, NothingToCut) ∷ (none c.rows, CutTakesAll) ∷ []) (ltb hold (length c.out)) TakenRowsExceed []
          (refl, (some_in c.out (omega arith), (left_some, tt))) (lt-ltb hold (length c.out) (omega arith))

      pub ready : p.end - p.first ≤ hold → (rules (cut_rules hold true c) ≡ Ok tt) × Ready (length rows) hold Cut [] rows c p
      ready l =
          let o = at_place.out in
          let z = at_place.size in
          let i = at_place.inside in
          let q = at_place.order in (
            accepts (cut_rules hold true c) (refl, (some_in c.out (omega arith), (left_some, (le-ltb hold (length c.out) (omega arith), tt)))),
            record {
              same = at_place.same;
              order = q;
              inside = i;
              put = put;
              size = omega arith;
              taken = l;
              sound = ap (λ (d : Change). in_order d.rows) (sym at_place.same) ∙ cut_in_order x y rows m h;
            },
          )

-- instants of the calendar
chosen : (day micros : ℕ) (b : Bool) (i : Instant) → b ≡ in_calendar day micros → Ok i ≡ cond b (Ok (instant_of day micros)) (Err OutsideCalendar) → (in_calendar day micros ≡ true) × (moment i ≡ joined day micros)
chosen day micros false i e q = absurd (cc)
chosen day micros true i e q =
    let s : i ≡ instant_of day micros = cc in
    let p = instant_of_pair day micros (sym e) in
    (sym e, ap moment s ∙ (let a = p.0 in let b = p.1 in omega arith))

pub inside : (day micros : ℕ) (i : Instant) → Ok i ≡ instant_if day micros → (in_calendar day micros ≡ true) × (moment i ≡ joined day micros)
inside day micros i q = chosen day micros (in_calendar day micros) i refl q

pub decided : (hold day micros end_day end_micros : ℕ) (rows : List Row) (from to : Instant) (r : Result Place Refusal) → Ok from ≡ instant_if day micros → Ok to ≡ instant_if end_day end_micros
    → Decided (rules (cut_rules hold true (cut_of (moment from) (moment to) rows))) (length rows) hold Cut [] rows (cut_of (moment from) (moment to) rows) r
    → Decided (cut_checks hold rows day micros end_day end_micros) (length rows) hold Cut [] rows (cut_of (joined day micros) (joined end_day end_micros) rows) r
decided hold day micros end_day end_micros rows from to r f t d =
    let a = inside day micros from f in
    let b = inside end_day end_micros to t in
    let g : (in_calendar day micros && in_calendar end_day end_micros) ≡ true = and_from (in_calendar day micros) (in_calendar end_day end_micros) a.0 b.0 in
    let first = a.1 in
    let last = b.1 in
    subst (λ z. Decided (rules (cut_rules hold z (cut_of (joined day micros) (joined end_day end_micros) rows))) (length rows) hold Cut [] rows (cut_of (joined day micros) (joined end_day end_micros) rows) r) (sym g)
    (subst (λ x. Decided (rules (cut_rules hold true (cut_of x (joined end_day end_micros) rows))) (length rows) hold Cut [] rows (cut_of x (joined end_day end_micros) rows) r) first
    (subst (λ y. Decided (rules (cut_rules hold true (cut_of (moment from) y rows))) (length rows) hold Cut [] rows (cut_of (moment from) y rows) r) last d))

-- What a paste answers, by the place that was found.
use Rattle.std.proofs.Common.{◌≡◌, ℕ, suc, ◌+◌, ◌-◌, ◌<◌, ◌≤◌, min, Bool, true, false, not, ◌&&◌, ltb, List, [], ◌∷◌, ◌++◌, map, length, take, drop, Some, None, Option, IsSome, Ok, Err, MatchOption, Bor, sym, refl, ap, ◌∙◌, subst, arith}
use Rattle.std.specs.List.{slice_get}
use Rattle.std.specs.Option.{option_copied}
use Rattle.std.proofs.lemmas.Bool.{le-ltb, lt-ltb, and_from, and_parts}
use Rattle.refusal.specs.declared.Refusal.TheVariants.{VelocitiesDiffer, TooManyRows, FlagChanges, TakenRowsExceed}
use Rattle.calendar.specs.Instants.{moment}
use Rattle.model.specs.declared.LeapFlag.{LeapFlag}
use Rattle.model.specs.declared.Row.{Row}
use Rattle.model.specs.Flags.{allows}
use Rattle.cells.specs.declared.summary.Summary.{Summary}
use Rattle.cells.specs.Cells.{extended_by, summary_if}
use Rattle.cells.specs.Cells as cells
use Rattle.cells.proofs.CellLaws.{count_by, first_by, last_by}
use Rattle.tables.specs.Lines.{time_of, not_after, earlier, ascends}
use Rattle.reading.specs.declared.scan.Scan.{Scan}
use Rattle.reading.specs.declared.stage.Part.TheVariants.{Block}
use Rattle.reading.specs.Texts.{scan_of}
use Rattle.reading.specs.Stores.{rows_in, first_flag_of}
use Rattle.reading.proofs.TrackLaws.{tracks_text}
use Rattle.journal.specs.declared.journal.Edit.TheVariants.{Paste}
use Rattle.edits.specs.declared.place.Place.{Place}
use Rattle.edits.specs.Changes.{Change, first_moment, last_moment}
use Rattle.edits.specs.Checks.{rules, none, flags_stay, in_order, moving, differ, paste_rules, paste_by, paste_of, paste_checks}
use Rattle.edits.specs.Places.{Ready, last_row, last_allows, allows_first}
use Rattle.edits.specs.Stages.{moving_at}
use Rattle.edits.proofs.FlagLaws.{flag_by, seam, flags_append, flags_take, flags_drop}
use Rattle.edits.proofs.RuleLaws.{accepts, refused_by}
use Rattle.edits.proofs.OrderLaws.{text_in_order}
use Rattle.edits.proofs.BlockLaws.{block_told}
use Rattle.edits.proofs.Parts.{ordered_block, paste_ascends}
use Rattle.edits.proofs.Placing.{Placed, placed}

-- the flags next to a place
last_read : (r : Row) (rs : List Row) → slice_get (r ∷ rs) (length rs) ≡ Some (last_row r rs)
last_read r [] = refl
last_read r (s ∷ rs) = last_read s rs

-- what the last of some rows allows, read by `last` and `is_none_or`
pub last_told : (rows : List Row) (f : LeapFlag) (lent : Option (Bor Row)) (b : Bool) {A : Type 0} {P : Bor Row → Type 0}
    → option_copied lent ≡ slice_get rows (length rows - 1) → MatchOption lent A P → (A → b ≡ true) → ((x : Bor Row) → P x → b ≡ allows x.now.flag f) → b ≡ last_allows rows f
last_told [] f None b e m n s = n m
last_told [] f (Some x) b e m n s = absurd (cc)
last_told (r ∷ rs) f None b e m n s =
    let z : suc (length rs) - 1 ≡ length rs = omega arith in
    let q : ◌≡◌ {A = Option Row} None (Some (last_row r rs)) = e ∙ ap (slice_get (r ∷ rs)) z ∙ last_read r rs in
    absurd (cc)
last_told (r ∷ rs) f (Some x) b e m n s =
    let z : suc (length rs) - 1 ≡ length rs = omega arith in
    let q : ◌≡◌ {A = Option Row} (Some x.now) (Some (last_row r rs)) = e ∙ ap (slice_get (r ∷ rs)) z ∙ last_read r rs in
    let w : x.now ≡ last_row r rs = cc in
    s x m ∙ ap (λ (y : Row). allows y.flag f) w

-- what the summary of a block tells of its rows
pub record Summed (block : List Row) (m : Summary) : Type 0 where
  pub some : none block ≡ false
  pub first : first_moment block ≡ moment m.first
  pub last : last_moment block ≡ moment m.last
  pub count : length block ≡ m.count
  pub after_is : (ys : List Row) → seam block ys ≡ allows_first m.flag ys

seam_first : (xs : List Row) (b : Row) (bs : List Row) → seam xs (b ∷ bs) ≡ last_allows xs b.flag
seam_first [] b bs = refl
seam_first (x ∷ xs) b bs = refl

seam_flag : (xs block ys : List Row) (f : LeapFlag) → first_flag_of block ≡ Some f → seam xs (block ++ ys) ≡ last_allows xs f
seam_flag xs [] ys f e = absurd (cc)
seam_flag xs (b ∷ bs) ys f e =
    let g : b.flag ≡ f = cc in
    seam_first xs b (bs ++ ys) ∙ ap (last_allows xs) g

seam_last : (b : Row) (bs ys : List Row) (f : LeapFlag) → (last_row b bs).flag ≡ f → seam (b ∷ bs) ys ≡ allows_first f ys
seam_last b bs [] f e = refl
seam_last b bs (y ∷ ys) f e = ap (λ g. allows g y.flag) e

pub summed : (block : List Row) (m : Summary) → Some m ≡ summary_if block → Summed block m
summed [] m e = absurd (cc)
summed (b ∷ bs) m e =
    let s : extended_by (cells.started b) bs ≡ m = cc in
    subst (Summed (b ∷ bs)) s
    (record {
      some = refl;
      first = ap moment (sym (first_by (cells.started b) bs));
      last = ap moment (sym (last_by (cells.started b) bs));
      count = let n = count_by (cells.started b) bs in omega arith;
      after_is = λ ys. seam_last b bs ys (extended_by (cells.started b) bs).flag (sym (flag_by (cells.started b) b bs refl));
    })

-- what is not None is a value
pub some_of : {X : Type 0} (o : Option X) → (o ≡ None → ⊥) → IsSome o
some_of (Some x) h = refl
some_of None h = absurd (h refl)

-- a block has a row
pub no_summary : (text : List ℕ) (u : Scan) → scan_of Block None text ≡ Ok u → u.summary ≡ None → ⊥
no_summary text u told e = by (rows_in text) refl
  where
    by : (block : List Row) → block ≡ rows_in text → ⊥
    by [] q = let s = (block_told text u told).some in let t : none {X = Row} [] ≡ false = ap none q ∙ s in cc
    by (b ∷ bs) q =
        let t = (tracks_text Block None text u told).summary in
        let s : Some (extended_by (cells.started b) bs) ≡ None = ap summary_if q ∙ sym t ∙ e in
        cc

pub no_first_flag : (text : List ℕ) (u : Scan) → scan_of Block None text ≡ Ok u → first_flag_of (rows_in text) ≡ None → ⊥
no_first_flag text u told e = by (rows_in text) (block_told text u told).some e
  where
    by : (block : List Row) → none block ≡ false → first_flag_of block ≡ None → ⊥
    by [] s q = absurd (cc)
    by (b ∷ bs) s q = absurd (cc)

module _ (room hold : ℕ) (rows : List Row) (text : List ℕ) (u : Scan) (told : Ok u ≡ scan_of Block None text) (m : Summary) (has : u.summary ≡ Some m) (order : in_order rows ≡ true) where
  abbrev block : List Row
  block = rows_in text

  abbrev c : Change
  c = paste_of block rows

  sums : Summed block m
  sums = summed block m (sym has ∙ (tracks_text Block None text u (sym told)).summary)

  checks : paste_checks room hold rows text ≡ rules (paste_rules room hold rows block c)
  checks = ap (paste_by room hold rows block) (sym told)

  moves : moving block ≡ moving_at u.stage
  moves = (block_told text u (sym told)).moves

  pub velocities : differ (moving_at u.stage) (moving rows) ≡ true → paste_checks room hold rows text ≡ Err VelocitiesDiffer
  velocities h =
      checks ∙ refused_by [] (differ (moving block) (moving rows)) VelocitiesDiffer
      ((ltb (min room 8192) (length c.rows), TooManyRows 0) ∷ (not (flags_stay c.rows), FlagChanges 0) ∷ (ltb hold (length c.out), TakenRowsExceed) ∷ []) tt
      (ap (λ b. differ b (moving rows)) moves ∙ h)

  module _ (agree : differ (moving_at u.stage) (moving rows) ≡ false) (p : Place)
      (first : p.first ≡ earlier (map time_of rows) (moment m.first)) (end : p.end ≡ not_after (map time_of rows) (moment m.last)) (put : p.put ≡ m.count) where
    same_velocities : differ (moving block) (moving rows) ≡ false
    same_velocities = ap (λ b. differ b (moving rows)) moves ∙ agree

    block_in_order : in_order block ≡ true
    block_in_order = text_in_order Block None text u (sym told)

    pub at_place : Placed Paste (first_moment block) (last_moment block) p.first p.end block rows
    at_place =
        placed Paste (first_moment block) (last_moment block) p.first p.end block rows (ordered_block block sums.some (and_parts (ascends block) (flags_stay block) block_in_order).0)
        (and_parts (ascends rows) (flags_stay rows) order).0 (first ∙ ap (earlier (map time_of rows)) (sym sums.first)) (end ∙ ap (not_after (map time_of rows)) (sym sums.last))

    size_is : length c.rows ≡ length rows - (p.end - p.first) + m.count
    size_is = let z = at_place.size in let n = sums.count in let i = at_place.inside in let o = at_place.order in omega arith

    pub too_many : min room 8192 < length rows - (p.end - p.first) + m.count → paste_checks room hold rows text ≡ Err (TooManyRows 0)
    too_many l =
        let z = size_is in
        checks ∙ refused_by ((differ (moving block) (moving rows), VelocitiesDiffer) ∷ []) (ltb (min room 8192) (length c.rows)) (TooManyRows 0)
        ((not (flags_stay c.rows), FlagChanges 0) ∷ (ltb hold (length c.out), TakenRowsExceed) ∷ []) (same_velocities, tt) (lt-ltb (min room 8192) (length c.rows) (omega arith))

    module _ (fit : length rows - (p.end - p.first) + m.count ≤ min room 8192) (f : LeapFlag) (opens : first_flag_of block ≡ Some f) where
      in_room : ltb (min room 8192) (length c.rows) ≡ false
      in_room = let z = size_is in le-ltb (min room 8192) (length c.rows) (omega arith)

      -- the flags of the whole result stay where they do at its two joints
      flags_are : flags_stay c.rows ≡ (last_allows (take p.first rows) f && allows_first m.flag (drop p.end rows))
      flags_are =
          let front = take p.first rows in
          let back = drop p.end rows in
          let flags = (and_parts (ascends rows) (flags_stay rows) order).1 in
          let own = (and_parts (ascends block) (flags_stay block) block_in_order).1 in
          ap (λ (d : Change). flags_stay d.rows) at_place.same
          ∙ flags_append front (block ++ back)
          ∙ rw (flags_take p.first rows flags, flags_append block back, own, flags_drop p.end rows flags, seam_flag front block back f opens, sums.after_is back)
          (and_true (last_allows front f) (allows_first m.flag back))
        where
          and_true : (a b : Bool) → (a && (b && true)) ≡ (a && b)
          and_true true true = refl
          and_true true false = refl
          and_true false b = refl

      flags_refused : flags_stay c.rows ≡ false → paste_checks room hold rows text ≡ Err (FlagChanges 0)
      flags_refused h =
          checks ∙ refused_by ((differ (moving block) (moving rows), VelocitiesDiffer) ∷ (ltb (min room 8192) (length c.rows), TooManyRows 0) ∷ []) (not (flags_stay c.rows)) (FlagChanges 0)
          ((ltb hold (length c.out), TakenRowsExceed) ∷ []) (same_velocities, (in_room, tt)) (ap not h)

      pub first_flag : last_allows (take p.first rows) f ≡ false → paste_checks room hold rows text ≡ Err (FlagChanges 0)
      first_flag h = flags_refused (flags_are ∙ rw h)

      module _ (before-allows : last_allows (take p.first rows) f ≡ true) where
        pub last_flag : allows_first m.flag (drop p.end rows) ≡ false → paste_checks room hold rows text ≡ Err (FlagChanges 0)
        last_flag h = flags_refused (flags_are ∙ rw (before-allows, h))

        module _ (allows-behind : allows_first m.flag (drop p.end rows) ≡ true) where
          flags_hold : flags_stay c.rows ≡ true
          flags_hold = flags_are ∙ rw (before-allows, allows-behind)

          pub exceeds : hold < p.end - p.first → paste_checks room hold rows text ≡ Err TakenRowsExceed
          exceeds l =
              let o = at_place.out in
              checks ∙ refused_by ((differ (moving block) (moving rows), VelocitiesDiffer) ∷ (ltb (min room 8192) (length c.rows), TooManyRows 0) ∷ (not (flags_stay c.rows), FlagChanges 0) ∷ [])
              (ltb hold (length c.out)) TakenRowsExceed [] (same_velocities, (in_room, (ap not flags_hold, tt))) (lt-ltb hold (length c.out) (omega arith))

          pub ready : p.end - p.first ≤ hold → (paste_checks room hold rows text ≡ Ok tt) × Ready (min room 8192) hold Paste block rows c p
          ready l =
              let o = at_place.out in
              let ascending = paste_ascends Paste block rows sums.some (and_parts (ascends block) (flags_stay block) block_in_order).0 (and_parts (ascends rows) (flags_stay rows) order).0 in
              let i = at_place.inside in
              let q = at_place.order in (
                checks ∙ accepts (paste_rules room hold rows block c) (same_velocities, (in_room, (ap not flags_hold, (le-ltb hold (length c.out) (omega arith), tt)))),
                record {
                  same = at_place.same;
                  order = q;
                  inside = i;
                  put = put ∙ sym sums.count;
                  size = omega arith;
                  taken = l;
                  sound = ap (λ (d : Change). in_order d.rows) (sym at_place.same) ∙ and_from (ascends c.rows) (flags_stay c.rows) ascending flags_hold;
                },
              )

-- What a sheet has open is such as a file can have, and fits its memory.
use Rattle.std.proofs.Common.{◌≡◌, ℕ, ◌≤◌, min, Bool, true, false, cond, List, [], ◌∷◌, length, Some, None, Ok, Err, Option, Result, sym, refl, subst, arith}
use Rattle.std.proofs.lemmas.Bool.{ltb-false, not-false}
use Rattle.refusal.specs.declared.Refusal.{Refusal}
use Rattle.model.specs.declared.Row.{Row}
use Rattle.model.specs.declared.header.Header.{Header}
use Rattle.reading.specs.declared.scan.Scan.{Scan}
use Rattle.reading.specs.declared.stage.Part.TheVariants.{File, Block}
use Rattle.reading.specs.Texts.{scan_of}
use Rattle.reading.specs.Stores.{rows_in}
use Rattle.reading.proofs.TrackLaws.{tracks_text}
use Rattle.edits.specs.Changes.{first_moment, last_moment}
use Rattle.edits.specs.Checks.{Answer, rules, paste_of, paste_rules, paste_by, paste_checks, cut_of, cut_rules}
use Rattle.edits.proofs.Parts.{ordered_block, some_between, cut_shorter}
use Rattle.journal.specs.declared.journal.Edit.TheVariants.{Cut}
use Rattle.sheet.specs.Openings.{Contents, contents_by, opened_from}
use Rattle.round_trip.specs.Contents.{GoodHeader, GoodRows}
use Rattle.round_trip.proofs.OpeningLaws.{openings_are_good}
use Rattle.round_trip.proofs.HeldLines.{blocks_are_good}
use Rattle.runs.proofs.GoodEdits.{good_some, good_parts, paste_good, cut_good}

abbrev pub GoodHeaderIf : Option Header → Type 0
GoodHeaderIf None = Unit {0}
GoodHeaderIf (Some h) = GoodHeader h

pub record Fit (room : ℕ) (h : Option Header) (rows : List Row) : Type 0 where
  pub header : GoodHeaderIf h
  pub rows_good : GoodRows rows
  pub size : length rows ≤ min room 8192

-- RULES

-- no rule refuses
abbrev pub AllFalse : List (Bool × Refusal) → Type 0
AllFalse [] = Unit {0}
AllFalse (r ∷ rs) = (r.0 ≡ false) × AllFalse rs

passed_one : (b : Bool) (e : Refusal) (a : Answer) → cond b (Err e) a ≡ Ok tt → (b ≡ false) × (a ≡ Ok tt)
passed_one true e a h = absurd (cc)
passed_one false e a h = (refl, h)

pub passed : (rs : List (Bool × Refusal)) → rules rs ≡ Ok tt → AllFalse rs
passed [] h = tt
passed (r ∷ rs) h = let p = passed_one r.0 r.1 (rules rs) h in (p.0, passed rs p.1)

-- a call that no sheet without a file accepts
pub with_file_lem : (b : Bool) (e : Refusal) (a : Answer) → cond b a (Err e) ≡ Ok tt → (b ≡ true) × (a ≡ Ok tt)
with_file_lem true e a h = (refl, h)
with_file_lem false e a h = absurd (cc)

-- OPENINGS

opened_size : (memory : ℕ) (file : List ℕ) (c : Contents) (r : Result Scan Refusal) → r ≡ scan_of File (Some (min memory 8192)) file → contents_by r (rows_in file) ≡ Ok c → length c.rows ≤ min memory 8192
opened_size memory file c (Err e) q p = absurd (cc)
opened_size memory file c (Ok u) q p =
    let e : record { header = u.header; rows = rows_in file } ≡ c = cc in
    let t = tracks_text File (Some (min memory 8192)) file u (sym q) in
    subst (λ (d : Contents). length d.rows ≤ min memory 8192) e (t.fits (min memory 8192) refl)

pub opened_fits : (room : ℕ) (file : List ℕ) (c : Contents) → opened_from room file ≡ Ok c → Fit room (Some c.header) c.rows
opened_fits room file c p =
    let g = openings_are_good room file c p in
    record { header = g.header; rows_good = g.rows; size = opened_size room file c (scan_of File (Some (min room 8192)) file) refl p }

-- PASTES

-- the edit takes out the rows from x to y, and what it leaves fits
pub record Fitting (room : ℕ) (h : Option Header) (x y : ℕ) (rows : List Row) : Type 0 where
  pub ordered : x ≤ y
  pub fits : Fit room h rows

module _ (room hold : ℕ) (h : Option Header) (rows : List Row) (f : Fit room h rows) where
  paste_by_lem : (block : List ℕ) (r : Result Scan Refusal) → r ≡ scan_of Block None block → paste_by room hold rows (rows_in block) r ≡ Ok tt
      → Fitting room h (first_moment (rows_in block)) (last_moment (rows_in block)) (paste_of (rows_in block) rows).rows
  paste_by_lem block (Err e) q p = absurd (cc)
  paste_by_lem block (Ok u) q p =
      let B = rows_in block in
      let c = paste_of B rows in
      let g = blocks_are_good block u (sym q) in
      let t = passed (paste_rules room hold rows B c) p in
      let s = ltb-false (min room 8192) (length c.rows) t.1.0 in
      record {
        ordered = ordered_block B (good_some B g) (good_parts B g).order;
        fits = record { header = f.header; rows_good = paste_good B rows g f.rows_good t.0 (not-false _ t.1.1.0); size = s };
      }

  pub paste_fits : (block : List ℕ) → paste_checks room hold rows block ≡ Ok tt → Fitting room h (first_moment (rows_in block)) (last_moment (rows_in block)) (paste_of (rows_in block) rows).rows
  paste_fits block p = paste_by_lem block (scan_of Block None block) refl p

  -- CUTS

  pub cut_fits : (inside : Bool) (x y : ℕ) → rules (cut_rules hold inside (cut_of x y rows)) ≡ Ok tt → Fitting room h x y (cut_of x y rows).rows
  cut_fits inside x y p =
      let t = passed (cut_rules hold inside (cut_of x y rows)) p in
      let m = some_between x y rows t.1.0 in
      let s = cut_shorter Cut x y rows m (good_parts rows f.rows_good).order in
      let z = f.size in
      record { ordered = m; fits = record { header = f.header; rows_good = cut_good x y rows m f.rows_good t.1.1.0; size = omega arith } }

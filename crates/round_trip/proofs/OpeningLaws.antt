-- What an opening yields is good.
use Rattle.std.proofs.Common.{◌≡◌, ℕ, ◌≤◌, min, List, length, Some, Ok, Err, Result, sym, refl, ap, subst}
use Rattle.refusal.specs.declared.Refusal.{Refusal}
use Rattle.reading.specs.declared.scan.Scan.{Scan}
use Rattle.reading.specs.declared.stage.Part.TheVariants as part
use Rattle.reading.specs.Texts.{scan_of}
use Rattle.reading.specs.Stores.{rows_in}
use Rattle.reading.proofs.TrackLaws.{tracks_text}
use Rattle.writing.specs.Files.{canonical}
use Rattle.sheet.specs.Openings.{Contents, contents_by, opened_from}
use Rattle.round_trip.specs.Openings.{GoodContents, OpeningsAreGood, RewrittenFilesOpen, RewritingSettles}
use Rattle.round_trip.proofs.HeldLines.{scan_good}
use Rattle.round_trip.proofs.FileLaws.{files_read_back}

-- what is opened is good, and fits the memory
record Fits (memory : ℕ) (c : Contents) : Type 0 where
  good : GoodContents c
  fits : length c.rows ≤ min memory 8192

opened_fits : (memory : ℕ) (file : List ℕ) (c : Contents) (r : Result Scan Refusal) → r ≡ scan_of part.File (Some (min memory 8192)) file → contents_by r (rows_in file) ≡ Ok c → Fits memory c
opened_fits memory file c (Err e) q p = cc
opened_fits memory file c (Ok u) q p =
    let e : record { header = u.header; rows = rows_in file } ≡ c = cc in
    let g = scan_good (min memory 8192) file u (sym q) in
    let t = tracks_text part.File (Some (min memory 8192)) file u (sym q) in
    subst (Fits memory) e (record { good = record { header = g.0; rows = g.1 }; fits = t.fits (min memory 8192) refl })

fits_of : (memory : ℕ) (file : List ℕ) (c : Contents) → opened_from memory file ≡ Ok c → Fits memory c
fits_of memory file c p = opened_fits memory file c (scan_of part.File (Some (min memory 8192)) file) refl p

pub openings_are_good : OpeningsAreGood
openings_are_good memory file c p = (fits_of memory file c p).good

pub rewritten_files_open : RewrittenFilesOpen
rewritten_files_open memory file c p =
    let f = fits_of memory file c p in
    files_read_back memory c.header c.rows f.good.header f.good.rows f.fits

pub rewriting_settles : RewritingSettles
rewriting_settles memory file c d p q =
    let e : d ≡ c = let r = rewritten_files_open memory file c p in cc in
    ap (λ x. canonical x.header x.rows) e

-- The test of a sheet's rows and journal, and what it says.
use Rattle.std.proofs.Common.{◌≡◌, ℕ, zero, suc, ◌+◌, ◌≤◌, min, true, ◌&&◌, leb, List, [], ◌∷◌, length, take, arith}
use Rattle.std.proofs.lemmas.Bool.{and_parts, and_from, leb-true, le-leb}
use Rattle.model.specs.declared.Row.{Row}
use Rattle.tables.specs.Lines.{ascends}
use Rattle.edits.specs.Changes.{restored}
use Rattle.edits.specs.Checks.{in_order, flags_stay}
use Rattle.sheet.specs.States.{Past}
use Rattle.sheet.specs.Sound.{fits, is_sound, Fits, Sound}

fits_means : (room : ℕ) (rows : List Row) → fits room rows ≡ true → Fits room rows
fits_means room rows h = let p = and_parts (in_order rows) (leb (length rows) (min room 8192)) h in (p.0, leb-true (length rows) (min room 8192) p.1)

fits_from : (room : ℕ) (rows : List Row) → Fits room rows → fits room rows ≡ true
fits_from room rows g = and_from (in_order rows) (leb (length rows) (min room 8192)) g.0 (le-leb (length rows) (min room 8192) g.1)

pub sound_means : (room : ℕ) (rows : List Row) (ps : List Past) → is_sound room rows ps ≡ true → Sound room rows ps
sound_means room rows [] h = fits_means room rows h
sound_means room rows (p ∷ ps) h =
    let back = restored p.entry p.out rows in
    let a = and_parts (fits room rows) (leb (p.entry.first + p.entry.put) (length rows) && is_sound room back ps) h in
    let b = and_parts (leb (p.entry.first + p.entry.put) (length rows)) (is_sound room back ps) a.1 in
    (fits_means room rows a.0, leb-true (p.entry.first + p.entry.put) (length rows) b.0, sound_means room back ps b.1)

pub sound_from : (room : ℕ) (rows : List Row) (ps : List Past) → Sound room rows ps → is_sound room rows ps ≡ true
sound_from room rows [] g = fits_from room rows g
sound_from room rows (p ∷ ps) g =
    let back = restored p.entry p.out rows in
    and_from (fits room rows) (leb (p.entry.first + p.entry.put) (length rows) && is_sound room back ps) (fits_from room rows g.0)
    (and_from (leb (p.entry.first + p.entry.put) (length rows)) (is_sound room back ps) (le-leb (p.entry.first + p.entry.put) (length rows) g.1) (sound_from room back ps g.2))

pub sound_fits : (room : ℕ) (rows : List Row) (ps : List Past) → Sound room rows ps → Fits room rows
sound_fits room rows [] g = g
sound_fits room rows (p ∷ ps) g = g.0

-- what the calls use of it
pub rows_fit : (room : ℕ) (rows : List Row) (ps : List Past) → is_sound room rows ps ≡ true → Fits room rows
rows_fit room rows ps h = sound_fits room rows ps (sound_means room rows ps h)

pub rows_ascend : (room : ℕ) (rows : List Row) (ps : List Past) → is_sound room rows ps ≡ true → ascends rows ≡ true
rows_ascend room rows ps h = (and_parts (ascends rows) (flags_stay rows) (rows_fit room rows ps h).0).0

pub rows_few : (room : ℕ) (rows : List Row) (ps : List Past) → is_sound room rows ps ≡ true → length rows ≤ 8192
rows_few room rows ps h = let f = (rows_fit room rows ps h).1 in omega arith

-- forgetting keeps it
pub sound_take : (room k : ℕ) (rows : List Row) (ps : List Past) → Sound room rows ps → Sound room rows (take k ps)
sound_take room zero rows [] g = g
sound_take room zero rows (p ∷ ps) g = g.0
sound_take room (suc k) rows [] g = g
sound_take room (suc k) rows (p ∷ ps) g = (g.0, g.1, sound_take room k (restored p.entry p.out rows) ps g.2)

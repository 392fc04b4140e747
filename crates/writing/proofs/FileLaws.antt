-- The parts of a file.
use Rattle.std.proofs.Common.{◌≡◌, ℕ, zero, suc, ◌+◌, ◌<◌, List, [], ◌∷◌, ◌++◌, length, get_or, take, Some, sym, refl, ap, ◌∙◌, append_assoc, append-nil, add-one, arith}
use Rattle.cells.specs.declared.summary.Cells.{Cells}
use Rattle.model.specs.declared.Row.{Row}
use Rattle.model.specs.declared.header.Header.{Header}
use Rattle.records.specs.declared.record.Record.TheVariants as rec
use Rattle.writing.specs.Texts.{record_text}
use Rattle.writing.specs.Values.{origin_values, satellite_values, position_values}
use Rattle.writing.specs.Files.{accuracy_text, offset_text, velocity_text, header_text, row_text, rows_text, file_text}

pub row_is : (r : Row) → record_text rec.Position (position_values r) ++ velocity_text r.velocity ≡ row_text r
unfolding row_text
row_is r = refl

-- the rows so far, with the row at i
rows_push : (rs : List Row) (i : ℕ) (r : Row) → i < length rs → rows_text (take (suc i) rs) ≡ rows_text (take i rs) ++ row_text (get_or rs i r)
unfolding rows_text
rows_push [] i r h = absurd (omega arith)
rows_push (q ∷ rs) zero r h = simp append-nil
rows_push (q ∷ rs) (suc i) r h = ap (λ t. row_text q ++ t) (rows_push rs i r (omega arith)) ∙ sym (append_assoc (row_text q) (rows_text (take i rs)) (row_text (get_or rs i r)))

pub rows_next : (rs : List Row) (i : ℕ) (r : Row) → i < length rs → r ≡ get_or rs i r → rows_text (take i rs) ++ row_text r ≡ rows_text (take (i + 1) rs)
rows_next rs i r h e = ap (λ q. rows_text (take i rs) ++ row_text q) e ∙ sym (rows_push rs i r h) ∙ ap (λ m. rows_text (take m rs)) (sym (add-one i))

pub header_is : (h : Header) (c : Cells) → record_text rec.H1 (origin_values h.origin) ++ (record_text rec.H2 (satellite_values h.satellite c) ++ (accuracy_text h.accuracy ++ (offset_text h.offset ++ record_text rec.H9 []))) ≡ header_text h c
unfolding header_text
header_is h c = refl

pub file_is : (c : Cells) (h : Header) (rs : List Row) → header_text h c ++ (rows_text rs ++ record_text rec.Trailer []) ≡ file_text (Some c) h rs
unfolding file_text
file_is c h rs = refl

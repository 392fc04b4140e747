-- A text of lines is split into these lines.
use Rattle.std.proofs.Common.{◌≡◌, ℕ, ◌+◌, ◌≤◌, true, false, eqb, ltb, leb, List, [], ◌∷◌, ◌++◌, length, sym, refl, ap, ◌∙◌, append_assoc, append-nil, arith}
use Rattle.std.specs.List.{AllByRecursion}
use Rattle.std.proofs.lemmas.List.{length_push}
use Rattle.std.proofs.lemmas.Bool.{ne_eqb, le-ltb, le-leb}
use Rattle.lines.specs.Texts.{on_line, text_on, text_of}
use Rattle.round_trip.specs.Lines.{LineByte, IsLine, lines_text, LinesSplit}

-- the rest of a line after its first bytes
on_line_lem : (line l rest : List ℕ) → AllByRecursion LineByte l → length line + length l ≤ 128 → text_on line (l ++ (10 ∷ rest)) ≡ on_line (line ++ l) (text_of rest)
on_line_lem line [] rest h short =
    let k : leb (length line) 128 ≡ true = le-leb (length line) 128 (omega arith) in
    rw k (ap (λ x. on_line x (text_of rest)) (sym (append-nil line)))
on_line_lem line (b ∷ l) rest h short =
    let p : eqb b 10 ≡ false = ne_eqb b 10 (λ e. omega (arith, h.0.0)) in
    let q : ltb b 32 ≡ false = le-ltb b 32 h.0.0 in
    let r : ltb 126 b ≡ false = le-ltb 126 b h.0.1 in
    rw (p, q, r) (on_line_lem (line ++ (b ∷ [])) l rest h.1 (omega (arith, length_push line b)) ∙ ap (λ x. on_line x (text_of rest)) (append_assoc line (b ∷ []) l))

pub first_line : (l rest : List ℕ) → IsLine l → text_of ((l ++ (10 ∷ [])) ++ rest) ≡ on_line l (text_of rest)
first_line l rest h = ap text_of (append_assoc l (10 ∷ []) rest) ∙ on_line_lem [] l rest h.bytes (omega (arith, h.short))

pub lines_split : LinesSplit
lines_split [] h = refl
lines_split (l ∷ ls) h = first_line l (lines_text ls) h.0 ∙ ap (on_line l) (lines_split ls h.1)

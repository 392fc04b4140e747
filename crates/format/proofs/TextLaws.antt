-- A text is read as lines just where it is their text.
use Rattle.std.proofs.Common.{◌≡◌, ℕ, ◌≤◌, eqb, ltb, leb, List, [], ◌∷◌, ◌++◌, length, sym, refl, ap, ◌∙◌, subst, append_assoc, append-nil, arith}
use Rattle.std.specs.List.{AllByRecursion}
use Rattle.std.proofs.lemmas.Bool.{cond_both, eqb-true, leb-true, le-leb, ltb-false, ne_eqb, le-ltb}
use Rattle.lines.specs.Texts.{at_line, Text, on_line, text_on, text_of}
use Rattle.format.specs.Format.{unlines, Printable, IsLine, IsText}

all_push : (l : List ℕ) (b : ℕ) → AllByRecursion Printable l → Printable b → AllByRecursion Printable (l ++ (b ∷ []))
all_push [] b p q = (q, tt)
all_push (c ∷ l) b p q = (p.0, all_push l b p.1 q)

-- the bytes bs after those of a line
text_from : (line bs : List ℕ) → AllByRecursion Printable line → (text_on line bs).ending ≡ at_line → (line ++ bs ≡ unlines (text_on line bs).lines) × AllByRecursion IsLine (text_on line bs).lines
text_from [] [] p e = (refl, tt)
text_from (c ∷ line) [] p e = cc
text_from line (b ∷ bs) p e =
    let P : Text → Type 0 = λ x. x.ending ≡ at_line → (line ++ (b ∷ bs) ≡ unlines x.lines) × AllByRecursion IsLine x.lines in
    cond_both (eqb b 10) _ _ P
    (λ t. cond_both (leb (length line) 128) _ _ P
    (λ u e. let q = text_from [] bs tt e in (ap (λ z. line ++ (z ∷ bs)) (eqb-true b 10 t) ∙ ap (λ z. line ++ (10 ∷ z)) q.0, (record { printable = p; short = leb-true (length line) 128 u }, q.1)))
    (λ u e. cc))
    (λ _. cond_both (ltb b 32) _ _ P (λ u e. cc)
    (λ low. cond_both (ltb 126 b) _ _ P (λ u e. cc)
    (λ high e. let q = text_from (line ++ (b ∷ [])) bs (all_push line b p (ltb-false b 32 low, ltb-false 126 b high)) e in (sym (append_assoc line (b ∷ []) bs) ∙ q.0, q.1)))) e

pub text_sound : (bs : List ℕ) → (text_of bs).ending ≡ at_line → IsText bs (text_of bs).lines
text_sound bs e = let q = text_from [] bs tt e in record { bytes = q.0; lines = q.1 }

line_to : (line l bs : List ℕ) → AllByRecursion Printable l → length (line ++ l) ≤ 128 → text_on line (l ++ (10 ∷ bs)) ≡ on_line (line ++ l) (text_of bs)
line_to line [] bs p h =
    let k : length line ≤ 128 = subst (λ z. length z ≤ 128) (append-nil line) h in
    rw (le-leb (length line) 128 k) (ap (λ z. on_line z (text_of bs)) (sym (append-nil line)))
line_to line (b ∷ l) bs p h =
    let low = le-ltb b 32 p.0.0 in
    let high = le-ltb 126 b p.0.1 in
    let no = ne_eqb b 10 (λ e. omega (arith, p.0.0, e)) in
    let a = append_assoc line (b ∷ []) l in
    rw (no, low, high) (line_to (line ++ (b ∷ [])) l bs p.1 (subst (λ z. length z ≤ 128) (sym a) h) ∙ ap (λ z. on_line z (text_of bs)) a)

text_to : (ls : List (List ℕ)) → AllByRecursion IsLine ls → text_of (unlines ls) ≡ record { lines = ls; ending = at_line }
text_to [] p = refl
text_to (l ∷ ls) p = line_to [] l (unlines ls) p.0.printable p.0.short ∙ ap (on_line l) (text_to ls p.1)

pub text_complete : (bs : List ℕ) (ls : List (List ℕ)) → IsText bs ls → text_of bs ≡ record { lines = ls; ending = at_line }
text_complete bs ls t = ap text_of t.bytes ∙ text_to ls t.lines

-- What the moves of a journal leave of its entries.
use Rattle.std.proofs.Common.{◌≡◌, ℕ, ◌+◌, ◌<◌, ◌≤◌, List, [], ◌∷◌, ◌++◌, length, get_or, take, sym, ap, ◌∙◌, arith, length-take}
use Rattle.std.proofs.lemmas.List.{take_more, get_or-take}
use Rattle.journal.specs.declared.journal.Entry.{Entry}
use Rattle.journal.specs.Journals.{taken_by}

taken_push : (es : List Entry) (e : Entry) → taken_by (es ++ (e ∷ [])) ≡ taken_by es + e.taken
taken_push [] e = omega arith
taken_push (x ∷ es) e = let h = taken_push es e in omega arith

-- one entry more, at place i of the first m, took out its rows more
pub taken_more : (entries : List Entry) (m len k i : ℕ) (d : Entry) → m ≤ len → k ≡ i → i < length (take m entries)
    → taken_by (take (k + 1) (take len entries)) ≡ taken_by (take k (take len entries)) + (get_or (take m entries) i d).taken
taken_more entries m len k i d l e h =
    let held = take len entries in
    let n = length-take len entries in
    let n' = length-take m entries in
    rw e (ap taken_by (take_more held i d (omega arith)) ∙ taken_push (take i held) (get_or held i d)
    ∙ ap (λ (x : Entry). taken_by (take i held) + x.taken) (get_or-take len entries i d (omega arith) ∙ sym (get_or-take m entries i d (omega arith))))

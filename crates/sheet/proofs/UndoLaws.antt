-- What an undo leaves.
use Rattle.std.proofs.Common.{◌≡◌, ℕ, ◌+◌, ◌-◌, ◌≤◌, true, List, ◌∷◌, ◌++◌, length, take, drop, Some, None, Option, Ok, Result, MatchOption, sym, ap, ◌∙◌, subst, arith, length-drop, length-take}
use lib.Seq.{paste}
use Rattle.std.specs.Option.{ok_or}
use Rattle.std.proofs.lemmas.List.{take-take, length-append, drop-take}
use Rattle.refusal.specs.declared.Refusal.{Refusal}
use Rattle.model.specs.declared.Row.{Row}
use Rattle.memory.proofs.Splice.{splice}
use Rattle.journal.specs.declared.journal.Entry.{Entry}
use Rattle.journal.specs.Journals.{taken_by}
use Rattle.edits.specs.Changes.{restored}
use Rattle.sheet.specs.States.{Past}
use Rattle.sheet.specs.Sound.{pasts_of, is_sound, Sound}
use Rattle.sheet.proofs.SoundLaws.{sound_means, sound_from, sound_fits}

-- the newest entry with the rows that it took out
abbrev pub newest : List Row → ℕ → List Entry → Entry → Past
newest taken held es e = record { entry = e; out = drop (taken_by es) (take held taken) }

-- the entry that was taken out, where there was one
pub newest_is : {X : Type 0} (A : Type 0) (P : X → Type 0) (o : Option X) (r : Result X Refusal) (e : Refusal) (x : X) → MatchOption o A P → r ≡ ok_or o e → r ≡ Ok x → P x
newest_is A P None r e x m q w = absurd (cc)
newest_is A P (Some y) r e x m q w = let s : y ≡ x = cc in subst P s m

module _ (cells taken : List Row) (len held : ℕ) (old es : List Entry) (e : Entry) (inside : len ≤ length cells) (kept : held ≤ length taken) (counted : held ≡ taken_by old)
    (sound : is_sound (length cells) (take len cells) (pasts_of old (take held taken)) ≡ true) (was : old ≡ e ∷ es) where
  chain : Sound (length cells) (take len cells) (newest taken held es e ∷ pasts_of es (take (taken_by es) (take held taken)))
  chain = sound_means (length cells) (take len cells) (pasts_of (e ∷ es) (take held taken)) (subst (λ z. is_sound (length cells) (take len cells) (pasts_of z (take held taken)) ≡ true) was sound)

  held_is : held ≡ e.taken + taken_by es
  held_is = counted ∙ ap taken_by was

  within : e.first + e.put ≤ len
  within = let a = chain.1 in let b = length-take len cells in omega arith

  fits_back : e.first + e.taken + (len - (e.first + e.put)) ≤ length cells
  fits_back =
      let n = newest taken held es e in
      let rows = take len cells in
      let g = (sound_fits (length cells) (restored e n.out rows) (pasts_of es (take (taken_by es) (take held taken))) chain.2).1 in
      let h = held_is in
      let i = within in
      let a = length-append (take e.first rows) (n.out ++ drop (e.first + e.put) rows) in
      let b = length-append n.out (drop (e.first + e.put) rows) in
      let c = length-take e.first rows in
      let d = length-drop (e.first + e.put) rows in
      let f = length-take len cells in
      let o = length-drop (taken_by es) (take held taken) in
      let p = length-take held taken in
      omega arith

  pub record Numbers : Type 0 where
    pub held_sum : held ≡ e.taken + taken_by es
    pub in_rows : e.first + e.put ≤ len
    pub fits : e.first + e.taken + (len - (e.first + e.put)) ≤ length cells

  pub numbers : Numbers
  numbers = record { held_sum = held_is; in_rows = within; fits = fits_back }

  out_is : (newest taken held es e).out ≡ take e.taken (drop (held - e.taken) taken)
  out_is =
      let h = held_is in
      let a : held - e.taken ≡ taken_by es = omega arith in
      let b : held ≡ taken_by es + e.taken = omega arith in
      ap (λ k. drop (taken_by es) (take k taken)) b ∙ drop-take (taken_by es) e.taken taken ∙ ap (λ k. take e.taken (drop k taken)) (sym a)

  pasts_after : pasts_of es (take (held - e.taken) taken) ≡ pasts_of es (take (taken_by es) (take held taken))
  pasts_after =
      let h = held_is in
      let a : held - e.taken ≡ taken_by es = omega arith in
      ap (λ k. pasts_of es (take k taken)) a ∙ ap (pasts_of es) (sym (take-take (taken_by es) held taken (omega arith)))

  module _ (t u : List Row) (moved : t ≡ paste cells (e.first + e.taken) (drop (e.first + e.put) cells) (len - (e.first + e.put))) (put : u ≡ paste t e.first (drop (held - e.taken) taken) e.taken) where
    pub rows_after : take (len - e.put + e.taken) u ≡ restored e (newest taken held es e).out (take len cells)
    rows_after =
        let h = held_is in
        splice cells t u taken len e.first e.put e.taken (held - e.taken) within inside fits_back (omega arith) moved put
        ∙ ap (λ z. take e.first (take len cells) ++ (z ++ drop (e.first + e.put) (take len cells))) (sym out_is)

    pub sound_after : length u ≡ length cells → is_sound (length u) (take (len - e.put + e.taken) u) (pasts_of es (take (held - e.taken) taken)) ≡ true
    sound_after l =
        (λ i. is_sound (l i) (rows_after i) (pasts_after i))
        ∙ sound_from (length cells) (restored e (newest taken held es e).out (take len cells)) (pasts_of es (take (taken_by es) (take held taken))) chain.2

    pub pasts_were : pasts_of old (take held taken) ≡ newest taken held es e ∷ pasts_of es (take (held - e.taken) taken)
    pasts_were = ap (λ z. pasts_of z (take held taken)) was ∙ ap (λ z. newest taken held es e ∷ z) (sym pasts_after)

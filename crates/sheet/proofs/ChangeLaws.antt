-- What a change leaves in the two memories and in the journal.
use Rattle.std.proofs.Common.{◌≡◌, ℕ, zero, suc, ◌+◌, ◌-◌, ◌<◌, ◌≤◌, min, true, List, [], ◌∷◌, ◌++◌, map, length, take, drop, sym, refl, ap, ◌∙◌, subst, ⊎_elim, arith, length-drop, length-take}
use lib.Seq.{paste}
use Rattle.std.proofs.lemmas.List.{take-take, take_all, take_at, drop_at, drop-drop, length-append, drop-take}
use Rattle.std.proofs.lemmas.List.Edits.{take-paste, length-paste, split_between}
use Rattle.std.proofs.lemmas.Slice.{between_is}
use Rattle.std.proofs.lemmas.Bool.{cases_lt}
use Rattle.model.specs.declared.Row.{Row}
use Rattle.memory.proofs.Splice.{splice}
use Rattle.journal.specs.declared.journal.Edit.{Edit}
use Rattle.journal.specs.declared.journal.Entry.{Entry}
use Rattle.journal.specs.Journals.{taken_by, Keeps, Fitting}
use Rattle.edits.specs.declared.place.Place.{Place}
use Rattle.edits.specs.Changes.{Change, change_at, restored}
use Rattle.edits.specs.Places.{Ready}
use Rattle.sheet.specs.States.{Past, entry_of}
use Rattle.sheet.specs.Sound.{pasts_of, is_sound, Sound}
use Rattle.sheet.proofs.SoundLaws.{sound_means, sound_from, sound_take}

taken_mono : (a b : ℕ) (es : List Entry) → a ≤ b → taken_by (take a es) ≤ taken_by (take b es)
taken_mono zero b es h = omega arith
taken_mono (suc a) zero es h = absurd (omega arith)
taken_mono (suc a) (suc b) [] h = omega arith
taken_mono (suc a) (suc b) (e ∷ es) h = let i = taken_mono a b es (omega arith) in omega arith

taken_part : (k : ℕ) (es : List Entry) → taken_by (take k es) ≤ taken_by es
taken_part zero es = omega arith
taken_part (suc k) [] = omega arith
taken_part (suc k) (e ∷ es) = let i = taken_part k es in omega arith

pub entries_are : (es : List Entry) (held : List Row) → map entry_of (pasts_of es held) ≡ es
entries_are [] held = refl
entries_are (e ∷ es) held = ap (λ z. e ∷ z) (entries_are es (take (taken_by es) held))

-- the newest edits took out what stands last
pasts_take : (k : ℕ) (es : List Entry) (held : List Row) → length held ≡ taken_by es → pasts_of (take k es) (drop (taken_by es - taken_by (take k es)) held) ≡ take k (pasts_of es held)
pasts_take zero es held l = refl
pasts_take (suc k) [] held l = refl
pasts_take (suc k) (e ∷ es) held l =
    let D = (e.taken + taken_by es) - (e.taken + taken_by (take k es)) in
    let T = taken_by (take k es) in
    let q = taken_part k es in
    let a : D + T ≡ taken_by es = omega arith in
    let b : D ≡ taken_by es - T = omega arith in
    let m = length-take (taken_by es) held in
    let out : drop T (drop D held) ≡ drop (taken_by es) held = drop-drop T D held ∙ ap (λ z. drop z held) a in
    let rest : take T (drop D held) ≡ drop (taken_by es - T) (take (taken_by es) held) = sym (drop-take D T held) ∙ (λ i. drop (b i) (take (a i) held)) in
    let rec = pasts_take k es (take (taken_by es) held) (omega arith) in
    λ i. record { entry = e; out = out i } ∷ (ap (pasts_of (take k es)) rest ∙ rec) i

abbrev pub past_at : Edit → ℕ → ℕ → List Row → List Row → Past
past_at edit i j block rows = record { entry = (change_at edit i j block rows).entry; out = (change_at edit i j block rows).out }

restored_at : (edit : Edit) (i j : ℕ) (block rows : List Row) → i ≤ j → j ≤ length rows → restored (change_at edit i j block rows).entry (change_at edit i j block rows).out (change_at edit i j block rows).rows ≡ rows
restored_at edit i j block rows h l =
    let I = take i rows in
    let A = drop j rows in
    let L = I ++ (block ++ A) in
    let n = length-take i rows in
    let O = take (j - i) (drop i rows) in
    let t : take i L ≡ I = take_at I (block ++ A) i (omega arith) in
    let d : drop (i + length block) L ≡ A = sym (drop-drop (length block) i L) ∙ ap (drop (length block)) (drop_at I (block ++ A) i (omega arith)) ∙ drop_at block A (length block) refl in
    (λ p. t p ++ (O ++ d p)) ∙ sym (split_between rows i j h)

module _ (cells taken : List Row) (len held : ℕ) (es : List Entry) (inside : len ≤ length cells) (kept : held ≤ length taken) (counted : held ≡ taken_by es)
    (edit : Edit) (p : Place) (block : List Row)
    (ready : Ready (min (length cells) 8192) (length taken) edit block (take len cells) (change_at edit p.first p.end block (take len cells)) p)
    (k n : ℕ) (g : Fitting (length taken - (p.end - p.first)) es k n) where
  abbrev R : List Row
  R = take len cells

  abbrev H : List Row
  H = take held taken

  abbrev c : Change
  c = change_at edit p.first p.end block R

  long : length R ≡ len
  long = let l = length-take len cells in omega arith

  pub record Numbers : Type 0 where
    pub order : p.first ≤ p.end
    pub within : p.end ≤ len
    pub put : p.put ≡ length block
    pub size : p.first + p.put + (len - p.end) ≤ length cells
    pub few : p.first + p.put + (len - p.end) ≤ 8192
    pub fits : p.end - p.first ≤ length taken
    pub stays : n ≤ held
    pub room : n + (p.end - p.first) ≤ length taken

  pub numbers : Numbers
  numbers =
      let l = long in
      let a = ready.order in
      let b = ready.inside in
      let d = ready.size in
      let e = ready.taken in
      let t = g.total in
      let f = g.fit in
      let q = taken_part k es in
      record { order = a; within = omega arith; put = ready.put; size = omega arith; few = omega arith; fits = e; stays = omega arith; room = omega arith }

  out_length : length c.out ≡ p.end - p.first
  out_length =
      let a = length-take (p.end - p.first) (drop p.first R) in
      let b = length-drop p.first R in
      let l = long in
      let m = numbers in
      let o = m.order in
      let i = m.within in
      omega arith

  pub keeps : Keeps (length taken) (length c.out) (map entry_of (pasts_of es H)) k
  keeps =
      let o = out_length in
      let m = numbers in
      let fit = m.fits in
      subst (λ z. Keeps (length taken) (length c.out) z k) (sym (entries_are es H))
      (record {
        stay = record { some = g.some; few = g.few; fit = let a = g.total in let b = g.fit in omega arith };
        most = λ m s. ⊎_elim
            (λ (q : k < m).
            let a = s.some in
            let b = s.few in
            let d = s.fit in
            let f = g.most (omega arith) (omega arith) in
            let u = taken_mono (k + 1) m es (omega arith) in
            let z : m ≤ k = absurd (omega arith) in
            z)
            (λ (q : m ≤ k). q)
            (cases_lt k m);
      })

  module _ (t1 t2 : List Row) (moved : t1 ≡ paste taken 0 (drop (held - n) taken) n) (copied : t2 ≡ paste t1 n (drop p.first cells) (p.end - p.first)) where
    pasts_at : pasts_of (c.entry ∷ take k es) (take (n + (p.end - p.first)) t2) ≡ past_at edit p.first p.end block R ∷ take k (pasts_of es H)
    pasts_at =
        let i = p.first in
        let j = p.end in
        let m = numbers in
        let nh = m.stays in
        let ij = m.order in
        let jl = m.within in
        let rm = m.room in
        let tot = g.total in
        let O = c.out in
        let K = take n (drop (held - n) taken) in
        let la = length-drop (held - n) taken in
        let lb = length-take n (drop (held - n) taken) in
        let lc = length-drop i cells in
        let l1 : length t1 ≡ length taken = ap length moved ∙ length-paste taken 0 (drop (held - n) taken) n (omega arith) (omega arith) in
        let z : 0 + n ≡ n = omega arith in
        let a : take n t1 ≡ K = ap (λ q. take q t1) (sym z) ∙ ap (take (0 + n)) moved ∙ take-paste taken 0 (drop (held - n) taken) n (omega arith) (omega arith) in
        let o : take (j - i) (drop i cells) ≡ O = sym (take-take (j - i) (len - i) (drop i cells) (omega arith)) ∙ ap (take (j - i)) (between_is cells i len) in
        let b : take (n + (j - i)) t2 ≡ K ++ O = ap (take (n + (j - i))) copied ∙ take-paste t1 n (drop i cells) (j - i) (omega arith) (omega arith) ∙ (λ q. a q ++ o q) in
        let T = taken_by (take k es) in
        let lk : length K ≡ T = omega arith in
        let dr : drop T (K ++ O) ≡ O = drop_at K O T lk in
        let hh = length-take held taken in
        let lh : length H ≡ taken_by es = omega arith in
        let hn : held - n ≡ taken_by es - T = omega arith in
        let hs : held ≡ (held - n) + n = omega arith in
        let tk : take T (K ++ O) ≡ drop (taken_by es - T) H = take_at K O T lk ∙ sym (drop-take (held - n) n taken) ∙ ap (λ q. drop (held - n) (take q taken)) (sym hs) ∙ ap (λ q. drop q H) hn in
        ap (pasts_of (c.entry ∷ take k es)) b
        ∙ (λ q. record { entry = c.entry; out = dr q } ∷ (ap (pasts_of (take k es)) tk ∙ pasts_take k es H lh) q)

    module _ (new : List Entry) (added : new ≡ record { edit = edit; first = p.first; put = p.put; taken = p.end - p.first } ∷ take k es) where
      added_is : new ≡ c.entry ∷ take k es
      added_is = added ∙ ap (λ m. record { edit = edit; first = p.first; put = m; taken = p.end - p.first } ∷ take k es) ready.put

      pub pasts_after : pasts_of new (take (n + (p.end - p.first)) t2) ≡ past_at edit p.first p.end block R ∷ take k (pasts_of es H)
      pasts_after = ap (λ z. pasts_of z (take (n + (p.end - p.first)) t2)) added_is ∙ pasts_at

      pub counted_after : n + (p.end - p.first) ≡ taken_by new
      counted_after = let a = ap taken_by added_is in let b = g.total in omega arith

      module _ (t u : List Row) (shifted : t ≡ paste cells (p.first + p.put) (drop p.end cells) (len - p.end)) (put : u ≡ paste t p.first block p.put) where
        pub rows_after : take (len - (p.end - p.first) + p.put) u ≡ c.rows
        rows_after =
            let m = numbers in
            let o = m.order in
            let i = m.within in
            let s = m.size in
            let b = m.put in
            let e : p.end ≡ p.first + (p.end - p.first) = omega arith in
            splice cells t u block len p.first (p.end - p.first) p.put 0 (omega arith) inside (omega arith) (omega arith)
            (shifted ∙ (λ q. paste cells (p.first + p.put) (drop (e q) cells) (len - e q))) put
            ∙ (λ q. take p.first R ++ (take_all p.put block (omega arith) q ++ drop (sym e q) R))

        pub sound_after : length u ≡ length cells → is_sound (length cells) R (pasts_of es H) ≡ true
            → is_sound (length u) (take (len - (p.end - p.first) + p.put) u) (pasts_of new (take (n + (p.end - p.first)) t2)) ≡ true
        sound_after l sound =
            let m = numbers in
            let o = m.order in
            let i = m.within in
            let s = m.size in
            let f = m.few in
            let b = m.put in
            let lr = long in
            let la = length-append (take p.first R) (block ++ drop p.end R) in
            let lb = length-append block (drop p.end R) in
            let lc = length-take p.first R in
            let ld = length-drop p.end R in
            let back = restored_at edit p.first p.end block R o (omega arith) in
            (λ q. is_sound (l q) (rows_after q) (pasts_after q))
            ∙ sound_from (length cells) c.rows (past_at edit p.first p.end block R ∷ take k (pasts_of es H))
            ((ready.sound, omega arith), omega arith, subst (λ z. Sound (length cells) z (take k (pasts_of es H))) (sym back) (sound_take (length cells) k R (pasts_of es H) (sound_means (length cells) R (pasts_of es H) sound)))

-- a place that is ready for a change is ready for the change by places, also where more rows may stand
pub ready_at : (limit more hold : ℕ) (edit : Edit) (block rows : List Row) (d : Change) (p : Place) → limit ≤ more → Ready limit hold edit block rows d p
    → Ready more hold edit block rows (change_at edit p.first p.end block rows) p
ready_at limit more hold edit block rows d p l r =
    record { same = refl; order = r.order; inside = r.inside; put = r.put; size = let s = r.size in omega arith; taken = r.taken; sound = r.sound }

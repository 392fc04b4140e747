-- How many entries stay is one number: that of the sheet is that of the plain sheet.
use Rattle.std.proofs.Common.{◌≡◌, ℕ, zero, suc, ◌+◌, ◌<◌, ◌≤◌, min, leb, List, length, take, sym, ◌∙◌, subst, ⊎_elim, arith}
use Rattle.std.proofs.lemmas.Bool.{le-leb, lt-leb, cond-true, cond-false, cases_lt}
use Rattle.journal.specs.declared.journal.Entry.{Entry}
use Rattle.journal.specs.Journals.{Stay, Keeps, taken_by}
use Rattle.runs.specs.Plain.{staying}

module _ (hold n : ℕ) (es : List Entry) (k : ℕ) where
  kept_up_to : (m : ℕ) → m ≤ 15 → m ≤ length es → k ≤ m → Stay hold n es k → ((j : ℕ) → Stay hold n es j → j ≤ k) → k ≡ staying hold n es m
  kept_up_to zero a b l s f = omega arith
  kept_up_to (suc m) a b l s f =
      let N = taken_by (take (suc m) es) + n in
      ⊎_elim
      (λ (h : hold < N).
      let ne : k ≡ suc m → ⊥ = λ e. let g : N ≤ hold = subst (λ j. taken_by (take j es) + n ≤ hold) e s.fit in omega arith in
      let k≤ : k ≤ m = ⊎_elim (λ (q : m < k). let e : k ≡ suc m = omega arith in absurd (ne e)) (λ (q : k ≤ m). q) (cases_lt m k) in
      kept_up_to m (omega arith) (omega arith) k≤ s f ∙ sym (cond-false (leb N hold) (suc m) (staying hold n es m) (lt-leb N hold h)))
      (λ (h : N ≤ hold).
      let g = f (suc m) (record { some = b; few = a; fit = h }) in
      let e : k ≡ suc m = omega arith in
      e ∙ sym (cond-true (leb N hold) (suc m) (staying hold n es m) (le-leb N hold h)))
      (cases_lt hold N)

  pub kept : Keeps hold n es k → k ≡ staying hold n es (min 15 (length es))
  kept h =
      let s = h.stay in
      kept_up_to (min 15 (length es)) (omega arith) (omega arith) (let a = s.some in let b = s.few in omega arith) s h.most

-- the number of the plain sheet may stay, and no more may, where the rows taken out alone fit
module _ (hold n : ℕ) (es : List Entry) (alone : n ≤ hold) where
  record Most (m k : ℕ) : Type 0 where
    stay : Stay hold n es k
    most : (j : ℕ) → j ≤ m → Stay hold n es j → j ≤ k

  most_staying : (m : ℕ) → m ≤ 15 → m ≤ length es → Most m (staying hold n es m)
  most_staying zero a b = record { stay = record { some = omega arith; few = omega arith; fit = omega arith }; most = λ j l s. l }
  most_staying (suc m) a b =
      let N = taken_by (take (suc m) es) + n in
      ⊎_elim
      (λ (h : hold < N).
      let r = most_staying m (omega arith) (omega arith) in
      let below : (j : ℕ) → j ≤ suc m → Stay hold n es j → j ≤ m =
      λ j l s. ⊎_elim
      (λ (q : m < j). let e : j ≡ suc m = omega arith in let g : N ≤ hold = subst (λ i. taken_by (take i es) + n ≤ hold) e s.fit in absurd (omega arith))
      (λ (q : j ≤ m). q)
      (cases_lt m j) in
      subst (Most (suc m)) (sym (cond-false (leb N hold) (suc m) (staying hold n es m) (lt-leb N hold h))) (record { stay = r.stay; most = λ j l s. r.most j (below j l s) s }))
      (λ (h : N ≤ hold). subst (Most (suc m)) (sym (cond-true (leb N hold) (suc m) (staying hold n es m) (le-leb N hold h))) (record { stay = record { some = b; few = a; fit = h }; most = λ j l s. l }))
      (cases_lt hold N)

  pub keeps : Keeps hold n es (staying hold n es (min 15 (length es)))
  keeps =
      let r = most_staying (min 15 (length es)) (omega arith) (omega arith) in
      record { stay = r.stay; most = λ j s. r.most j (let a = s.some in let b = s.few in omega arith) s }

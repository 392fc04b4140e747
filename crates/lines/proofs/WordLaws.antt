use Rattle.std.proofs.Common.{refl, add-one, ◌≡◌, ℕ, zero, suc, ◌+◌, ◌-◌, ◌<◌, ◌≤◌, true, false, cond, eqb, List, [], ◌∷◌, ◌++◌, length, get_or, take, drop, sym, ap, ◌∙◌, ⊎_elim, arith}
use Rattle.std.proofs.lemmas.List.{at_drop_more, at_drop_all, take-append-drop, length-take-le, get_or-take, take_rest}
use Rattle.std.proofs.lemmas.Bool.{cond_both, ne_eqb, eq-eqb, cases_lt}
use Rattle.lines.specs.Words.{words, stops, on_first}

pub skip_more : (xs : List ℕ) (i : ℕ) → i < length xs → get_or xs i 0 ≡ 32 → words (drop i xs) ≡ words (drop (i + 1) xs)
skip_more xs i h e =
    let step : words (drop i xs) ≡ cond (eqb (get_or xs i 0) 32) (words (drop (i + 1) xs)) (cond (stops (drop (i + 1) xs)) ((get_or xs i 0 ∷ []) ∷ words (drop (i + 1) xs)) (on_first (get_or xs i 0) (words (drop (i + 1) xs)))) = at_drop_more words xs i 0 h in
    step ∙ rw (eq-eqb _ _ e)

-- spaces in front of a line's words
pub skipped : (xs : List ℕ) (n : ℕ) → n ≤ length xs → ((k : ℕ) → k < n → get_or xs k 0 ≡ 32) → words (drop n xs) ≡ words xs
skipped xs zero h all = refl
skipped xs (suc n) h all = ap (λ k. words (drop k xs)) (sym (add-one n)) ∙ sym (skip_more xs n (omega arith) (all n (omega arith))) ∙ skipped xs n (omega arith) (λ k l. all k (omega arith))

-- no byte of w is a space
abbrev pub Solid : List ℕ → Type 0
Solid w = (k : ℕ) → k < length w → get_or w k 0 ≡ 32 → ⊥

solid_rest : (b : ℕ) (w : List ℕ) → Solid (b ∷ w) → Solid w
solid_rest b w s k h e = s (suc k) (omega arith) e

first_solid : (b : ℕ) (w : List ℕ) → Solid (b ∷ w) → eqb b 32 ≡ false
first_solid b w s = ne_eqb b 32 (s 0 (omega arith))

at_solid : (c : ℕ) (bs : List ℕ) → eqb c 32 ≡ false → words (c ∷ bs) ≡ cond (stops bs) ((c ∷ []) ∷ words bs) (on_first c (words bs))
at_solid c bs h = rw h

-- a run of bytes that are no space, up to a space or the end, is the first word
pub first_word : (b : ℕ) (w rest : List ℕ) → Solid (b ∷ w) → stops rest ≡ true → words (b ∷ (w ++ rest)) ≡ (b ∷ w) ∷ words rest
first_word b [] rest s e = rw (first_solid b [] s, e)
first_word b (c ∷ w) rest s e =
    rw (first_solid b (c ∷ w) s, first_solid c w (solid_rest b (c ∷ w) s))
    (ap (on_first b) (sym (at_solid c (w ++ rest) (first_solid c w (solid_rest b (c ∷ w) s))) ∙ first_word c w rest (solid_rest b (c ∷ w) s) e))

stops_at : (xs : List ℕ) (n : ℕ) → (n < length xs → get_or xs n 0 ≡ 32) → stops (drop n xs) ≡ true
stops_at xs n f = ⊎_elim (λ h. at_drop_more stops xs n 0 h ∙ eq-eqb _ _ (f h)) (λ h. at_drop_all stops xs n h) (cases_lt n (length xs))

-- n bytes of xs are no space, and then comes one, or the end
pub cut_word : (xs : List ℕ) (n : ℕ) → 0 < length xs → (get_or xs 0 0 ≡ 32 → ⊥) → n ≤ length xs → ((k : ℕ) → k < n → get_or xs k 0 ≡ 32 → ⊥) → (n < length xs → get_or xs n 0 ≡ 32) → words xs ≡ take n xs ∷ words (drop n xs)
cut_word [] n some f within before found = absurd (omega arith)
cut_word (b ∷ xs) zero some f within before found = absurd (f (found (omega arith)))
cut_word (b ∷ xs) (suc n) some f within before found =
    ap (λ l. words (b ∷ l)) (sym (take-append-drop n xs))
    ∙ first_word b (take n xs) (drop n xs)
    (λ k h e. before k (omega (arith, length-take-le n xs (omega arith))) (sym (get_or-take (suc n) (b ∷ xs) k 0 (omega (arith, length-take-le n xs (omega arith)))) ∙ e))
    (stops_at (b ∷ xs) (suc n) found)

-- what `skip_spaces` returns is the rest of xs from i, as the checker reads `&s[i..]`
pub rest_same : (xs : List ℕ) (i : ℕ) (ws : List (List ℕ)) → words (drop i xs) ≡ ws → words (take (length xs - i) (drop i xs)) ≡ ws
rest_same xs i ws e = rw take_rest e

-- no more words than bytes
first_le : (b : ℕ) (ws : List (List ℕ)) → length (on_first b ws) ≤ length ws + 1
first_le b [] = omega arith
first_le b (w ∷ ws) = omega arith

pub words_le : (xs : List ℕ) → length (words xs) ≤ length xs
words_le [] = omega arith
words_le (b ∷ bs) =
    let h = words_le bs in
    cond_both (eqb b 32) _ _ (λ ws. length ws ≤ suc (length bs)) (λ _. omega arith)
    (λ _. cond_both (stops bs) _ _ (λ ws. length ws ≤ suc (length bs)) (λ _. omega arith) (λ _. omega (arith, first_le b (words bs))))

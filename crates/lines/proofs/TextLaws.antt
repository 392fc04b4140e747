use Rattle.std.proofs.Common.{Result, ◌≡◌, ℕ, suc, ◌+◌, ◌-◌, ◌<◌, ◌≤◌, true, false, eqb, ltb, leb, List, [], ◌∷◌, ◌++◌, length, take, drop, Some, None, Ok, Err, Option, sym, refl, ap, ◌∙◌, subst, ⊎_elim, append_assoc, append-nil, arith, Bor, MatchOption}
use Rattle.std.specs.Result.{result_unwrap_or}
use Rattle.std.proofs.lemmas.List.{length_push, length-take-le, drop-drop}
use Rattle.std.proofs.lemmas.Bool.{cases_Bool, cond_both}
use Rattle.refusal.specs.declared.Refusal.{Refusal}
use Rattle.lines.specs.declared.scan.LineFault.{LineFault}
use Rattle.lines.specs.declared.scan.LineFault.TheVariants as faults
use Rattle.lines.specs.Lines.{line_end, Inside, lists, line_by, next_line, bytes_taken}
use Rattle.lines.specs.Texts.{Ending, at_line, forbidden, too_long, Text, on_line, ends_by, text_on, text_of, ending_refusal}

abbrev AtLeast : ℕ → Result ℕ LineFault → Type 0
AtLeast k (Ok m) = k ≤ m
AtLeast k (Err e) = Unit {0}

weaker : (k : ℕ) (e : Result ℕ LineFault) → AtLeast (k + 1) e → AtLeast k e
weaker k (Ok m) h = omega arith
weaker k (Err e) h = tt

at_least : (k : ℕ) (bs : List ℕ) → AtLeast k (line_end k bs)
at_least k [] = tt
at_least k (b ∷ bs) =
    cond_both (eqb b 10) _ _ (AtLeast k) (λ _. cond_both (leb k 128) _ _ (AtLeast k) (λ _. omega arith) (λ _. tt))
    (λ _. cond_both (ltb b 32) _ _ (AtLeast k) (λ _. tt) (λ _. cond_both (ltb 126 b) _ _ (AtLeast k) (λ _. tt) (λ _. weaker k (line_end (k + 1) bs) (at_least (k + 1) bs))))

within : (k : ℕ) (bs : List ℕ) → Inside (line_end k bs) (k + length bs)
within k [] = tt
within k (b ∷ bs) =
    let P : Result ℕ LineFault → Type 0 = λ e. Inside e (k + suc (length bs)) in
    cond_both (eqb b 10) _ _ P (λ _. cond_both (leb k 128) _ _ P (λ _. omega arith) (λ _. tt))
    (λ _. cond_both (ltb b 32) _ _ P (λ _. tt) (λ _. cond_both (ltb 126 b) _ _ P (λ _. tt)
    (λ _. let z : k + 1 + length bs ≡ k + suc (length bs) = omega arith in subst (λ n. Inside (line_end (k + 1) bs) n) z (within (k + 1) bs))))

-- what the bytes bs come to after those of the line, which ends as e says
abbrev rest : List ℕ → Result ℕ LineFault → List ℕ → Text
rest line (Ok m) bs = on_line (line ++ take (m - length line) bs) (text_of (drop (m - length line + 1) bs))
rest line (Err faults.Forbidden) bs = ends_by forbidden
rest line (Err faults.TooLong) bs = ends_by too_long

shift : (line : List ℕ) (b : ℕ) (bs : List ℕ) (e : Result ℕ LineFault) → AtLeast (length line + 1) e → rest (line ++ (b ∷ [])) e bs ≡ rest line e (b ∷ bs)
shift line b bs (Ok m) h =
    let p : m - length line ≡ suc (m - (length line + 1)) = omega arith in
    let q : m - length line + 1 ≡ suc (m - (length line + 1) + 1) = omega arith in
    rw (q, p, length_push line b) (ap (λ l. on_line l (text_of (drop (m - (length line + 1) + 1) bs))) (append_assoc line (b ∷ []) (take (m - (length line + 1)) bs)))
shift line b bs (Err faults.Forbidden) h = refl
shift line b bs (Err faults.TooLong) h = refl

at_end : (line : List ℕ) (b : ℕ) (bs : List ℕ) → on_line line (text_of bs) ≡ rest line (Ok (length line)) (b ∷ bs)
at_end line b bs =
    let z : length line - length line ≡ 0 = omega arith in
    let e : line ≡ line ++ take (length line - length line) (b ∷ bs) = rw z (sym (append-nil line)) in
    let f : bs ≡ drop (length line - length line + 1) (b ∷ bs) = rw z in
    λ i. on_line (e i) (text_of (f i))

text_rest : (line bs : List ℕ) → 0 < length line + length bs → text_on line bs ≡ rest line (line_end (length line) bs) bs
text_rest [] [] h = absurd (omega arith)
text_rest (c ∷ line) [] h = refl
text_rest line (b ∷ bs) h =
    ⊎_elim
    (λ (t : eqb b 10 ≡ true). ⊎_elim (λ (u : leb (length line) 128 ≡ true). rw (t, u) (at_end line b bs)) (λ (u : leb (length line) 128 ≡ false). rw (t, u)) (cases_Bool (leb (length line) 128)))
    (λ (f : eqb b 10 ≡ false). ⊎_elim (λ (t : ltb b 32 ≡ true). rw (f, t))
    (λ (f2 : ltb b 32 ≡ false). ⊎_elim (λ (t : ltb 126 b ≡ true). rw (f, f2, t))
    (λ (f3 : ltb 126 b ≡ false). rw (f, f2, f3)
    (text_rest (line ++ (b ∷ [])) bs (omega (arith, length_push line b)) ∙ ap (λ k. rest (line ++ (b ∷ [])) (line_end k bs) bs) (length_push line b) ∙ shift line b bs (line_end (length line + 1) bs) (at_least (length line + 1) bs)))
    (cases_Bool (ltb 126 b)))
    (cases_Bool (ltb b 32)))
    (cases_Bool (eqb b 10))

text_is : (b : ℕ) (bs : List ℕ) → text_of (b ∷ bs) ≡ rest [] (line_end 0 (b ∷ bs)) (b ∷ bs)
text_is b bs = text_rest [] (b ∷ bs) (omega arith)

inside : (b : ℕ) (bs : List ℕ) → Inside (line_end 0 (b ∷ bs)) (length (b ∷ bs))
inside b bs = let z : 0 + suc (length bs) ≡ suc (length bs) = omega arith in subst (λ k. Inside (line_end 0 (b ∷ bs)) k) z (within 0 (b ∷ bs))

some_rest : (n : ℕ) (bs l : List ℕ) (e : Result ℕ LineFault) → Inside e (length bs) → line_by n bs e ≡ Ok (Some l) → rest [] e bs ≡ on_line l (text_of (drop (length l + 1) bs))
some_rest n bs l (Ok m) h p =
    let z : m - 0 ≡ m = omega arith in
    let t : take m bs ≡ l = cc in
    let k : m ≡ length l = sym (length-take-le m bs (omega arith)) ∙ ap length t in
    rw z (λ i. on_line (t i) (text_of (drop (k i + 1) bs)))
some_rest n bs l (Err e) h p = cc

-- a text by what the reader answers for its first line
pub some_line : (n : ℕ) (bs l : List ℕ) → next_line n bs ≡ Ok (Some l) → text_of bs ≡ on_line l (text_of (drop (length l + 1) bs))
some_line n [] l p = cc
some_line n (b ∷ bs) l p = text_is b bs ∙ some_rest n (b ∷ bs) l (line_end 0 (b ∷ bs)) (inside b bs) p

none_by : (n : ℕ) (bs : List ℕ) (e : Result ℕ LineFault) → line_by n bs e ≡ Ok None → ⊥
none_by n bs (Ok m) p = cc
none_by n bs (Err e) p = cc

pub no_line : (n : ℕ) (bs : List ℕ) → next_line n bs ≡ Ok None → text_of bs ≡ ends_by at_line
no_line n [] p = refl
no_line n (b ∷ bs) p = absurd (none_by n (b ∷ bs) (line_end 0 (b ∷ bs)) p)

-- the text ends at a line that is none
pub record Ends (number : ℕ) (text : Text) (e : Refusal) : Type 0 where
  pub how : Ending
  pub here : text ≡ ends_by how
  pub refusal : ending_refusal number how ≡ Some e

bad_rest : (n : ℕ) (bs : List ℕ) (r : Refusal) (e : Result ℕ LineFault) → line_by n bs e ≡ Err r → Ends n (rest [] e bs) r
bad_rest n bs r (Ok m) p = cc
bad_rest n bs r (Err faults.Forbidden) p = record { how = forbidden; here = refl; refusal = cc }
bad_rest n bs r (Err faults.TooLong) p = record { how = too_long; here = refl; refusal = cc }

pub bad_line : (n : ℕ) (bs : List ℕ) (r : Refusal) → next_line n bs ≡ Err r → Ends n (text_of bs) r
bad_line n [] r p = cc
bad_line n (b ∷ bs) r p = let q = bad_rest n (b ∷ bs) r (line_end 0 (b ∷ bs)) p in record { how = q.how; here = text_is b bs ∙ q.here; refusal = q.refusal }

-- the same by an answer with references in place of the bytes
pub by_answer : (n at to : ℕ) (xs : List ℕ) (r : Result (Option (Bor (List ℕ))) Refusal) → lists r ≡ next_line n (drop at xs) → to ≡ at + bytes_taken (lists r)
    → MatchOption (result_unwrap_or r None) ((text_of (drop at xs)).lines ≡ []) (λ l. text_of (drop at xs) ≡ on_line l.now (text_of (drop to xs)))
by_answer n at to xs (Ok None) p e = ap (λ t. t.lines) (no_line n (drop at xs) (sym p))
by_answer n at to xs (Ok (Some l)) p e =
    some_line n (drop at xs) l.now (sym p) ∙ ap (λ b. on_line l.now (text_of b)) (drop-drop (length l.now + 1) at xs ∙ ap (λ k. drop k xs) (sym e))
by_answer n at to xs (Err f) p e = ap (λ t. t.lines) (bad_line n (drop at xs) f (sym p)).here

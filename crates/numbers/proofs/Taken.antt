-- A word's parts and its form: each follows from the other.
use Rattle.std.proofs.Common.{◌≡◌, ℕ, suc, ◌+◌, ◌≤◌, Bool, true, false, ◌&&◌, eqb, leb, List, [], ◌∷◌, ◌++◌, length, take, drop, sym, refl, ap, ◌∙◌, subst, inl, inr, arith}
use Rattle.std.specs.List.{AllByRecursion}
use Rattle.std.proofs.lemmas.List.{take-append-drop, take_at, drop_at, length-take-le}
use Rattle.std.proofs.lemmas.Bool.{eq-eqb, ne_eqb, eqb-true, le-leb, leb-true, and_parts, and_from, cond_both}
use Rattle.numbers.specs.Shapes.{is_digit, Digit, digit_run, has_minus, without_sign, Shape, whole_word, decimal_word, text_word, by_rest, word_of}
use Rattle.numbers.specs.Parts.{SignText, Parts}
use Rattle.numbers.proofs.Words.{split}

pub by_bool : {P : Type 0} (b : Bool) → (b ≡ true → P) → (b ≡ false → P) → P
by_bool true yes' no' = yes' refl
by_bool false yes' no' = no' refl

digit_from : (b : ℕ) → is_digit b ≡ true → Digit b
digit_from b e = let p = and_parts (leb 48 b) (leb b 57) e in (leb-true 48 b p.0, leb-true b 57 p.1)

digit_test : (b : ℕ) → Digit b → is_digit b ≡ true
digit_test b h = and_from (leb 48 b) (leb b 57) (le-leb 48 b h.0) (le-leb b 57 h.1)

-- the run of digits at the front
run_le : (xs : List ℕ) → digit_run xs ≤ length xs
run_le [] = omega arith
run_le (b ∷ xs) = cond_both (is_digit b) (1 + digit_run xs) 0 (λ n. n ≤ suc (length xs)) (λ e. omega (arith, run_le xs)) (λ e. omega arith)

run_digits : (xs : List ℕ) → AllByRecursion Digit (take (digit_run xs) xs)
run_digits [] = tt
run_digits (b ∷ xs) =
    by_bool (is_digit b)
    (λ e. let s : 1 + digit_run xs ≡ suc (digit_run xs) = omega arith in rw (e, s) (digit_from b e, run_digits xs))
    (λ e. rw e tt)

pub run_full : (xs : List ℕ) → digit_run xs ≡ length xs → AllByRecursion Digit xs
run_full [] h = tt
run_full (b ∷ xs) h =
    by_bool (is_digit b)
    (λ e. let k : 1 + digit_run xs ≡ suc (length xs) = rw e at h in (digit_from b e, run_full xs (omega arith)))
    (λ e. let k : 0 ≡ suc (length xs) = rw e at h in absurd (omega arith))

run_over : (ds rest : List ℕ) → AllByRecursion Digit ds → digit_run (ds ++ rest) ≡ length ds + digit_run rest
run_over [] rest h = omega arith
run_over (b ∷ ds) rest h = rw (digit_test b h.0, run_over ds rest h.1) (omega arith)

run_all_digits : (ds : List ℕ) → AllByRecursion Digit ds → digit_run ds ≡ length ds
run_all_digits [] h = refl
run_all_digits (b ∷ ds) h = rw (digit_test b h.0, run_all_digits ds h.1) (omega arith)

pub run_front : (xs front : List ℕ) (n : ℕ) → n ≡ digit_run xs → front ≡ take n xs → digit_run front ≡ length front
run_front xs front n e f = rw (f, e) (run_all_digits (take (digit_run xs) xs) (run_digits xs))

-- the sign
pub sign_split : (w : List ℕ) → (s : List ℕ) × (SignText (has_minus w) s × (w ≡ s ++ without_sign w))
sign_split [] = ([], (inl refl, refl))
sign_split (b ∷ bs) =
    by_bool (eqb b 45)
    (λ e. let k = eqb-true b 45 e in rw (e, ne_eqb b 43 (λ f. omega arith)) (45 ∷ [], (refl, ap (λ x. x ∷ bs) k)))
    (λ e. by_bool (eqb b 43)
    (λ f. rw (e, f) (43 ∷ [], (inr refl, ap (λ x. x ∷ bs) (eqb-true b 43 f))))
    (λ f. rw (e, f) ([], (inl refl, refl))))

-- what a word's form says of the word
abbrev pub Holds : List ℕ → Shape → Type 0
Holds w (whole_word negative front) = Parts w negative front []
Holds w (decimal_word negative front back) = Parts w negative front (46 ∷ back) × AllByRecursion Digit back
Holds w (text_word t) = t ≡ w

by_rest_lem : (w : List ℕ) (negative : Bool) (front rest : List ℕ) → Parts w negative front rest → Holds w (by_rest w negative front rest)
by_rest_lem w negative front [] p = p
by_rest_lem w negative front (b ∷ back) p =
    cond_both (eqb b 46 && eqb (digit_run back) (length back)) (decimal_word negative front back) (text_word w) (Holds w)
    (λ e.
    let q = and_parts (eqb b 46) (eqb (digit_run back) (length back)) e in
    let P : ℕ → Type 0 = λ x. Parts w negative front (x ∷ back) in
    (subst P (eqb-true b 46 q.0) p, run_full back (eqb-true (digit_run back) (length back) q.1)))
    (λ e. refl)

pub word_holds : (w : List ℕ) → Holds w (word_of w)
word_holds w =
    let body = without_sign w in
    let n = digit_run body in
    let s = sign_split w in
    let len : length (take n body) ≡ n = length-take-le n body (run_le body) in
    cond_both (leb 1 n && leb n 12) (by_rest w (has_minus w) (take n body) (drop n body)) (text_word w) (Holds w)
    (λ e.
    let q = and_parts (leb 1 n) (leb n 12) e in
    by_rest_lem w (has_minus w) (take n body) (drop n body)
    record {
      sign = s.0;
      signed = s.1.0;
      digits = run_digits body;
      some = omega (arith, leb-true 1 n q.0);
      few = omega (arith, leb-true n 12 q.1);
      all = s.1.1 ∙ ap (λ l. s.0 ++ l) (sym (take-append-drop n body));
    })
    (λ e. refl)

pub strip : (negative : Bool) (s front rest : List ℕ) → SignText negative s → AllByRecursion Digit front → 1 ≤ length front → (negative ≡ has_minus (s ++ (front ++ rest))) × (front ++ rest ≡ without_sign (s ++ (front ++ rest)))
strip negative s [] rest e h some = absurd (omega arith)
strip true s (b ∷ ds) rest e h some = rw e (refl, refl)
strip false s (b ∷ ds) rest (inl e) h some =
    let minus = ne_eqb b 45 (λ f. omega (arith, h.0)) in
    let plus = ne_eqb b 43 (λ f. omega (arith, h.0)) in
    rw e (sym minus, rw (plus, minus))
strip false s (b ∷ ds) rest (inr e) h some = rw e (refl, refl)

pub parts_word : (w : List ℕ) (negative : Bool) (front rest : List ℕ) → Parts w negative front rest → digit_run rest ≡ 0 → by_rest w negative front rest ≡ word_of w
parts_word w negative front rest p stop =
    let q = strip negative p.sign front rest p.signed p.digits p.some in
    split w negative (front ++ rest) front rest (length front)
    (q.0 ∙ ap has_minus (sym p.all))
    (q.1 ∙ ap without_sign (sym p.all))
    (omega (arith, run_over front rest p.digits))
    (sym (take_at front rest (length front) refl))
    (sym (drop_at front rest (length front) refl))
    p.some
    p.few

pub parts_whole : (w : List ℕ) (negative : Bool) (front : List ℕ) → Parts w negative front [] → whole_word negative front ≡ word_of w
parts_whole w negative front p = parts_word w negative front [] p refl

pub parts_decimal : (w : List ℕ) (negative : Bool) (front back : List ℕ) → Parts w negative front (46 ∷ back) → AllByRecursion Digit back → decimal_word negative front back ≡ word_of w
parts_decimal w negative front back p h = sym (rw (eq-eqb (digit_run back) (length back) (run_all_digits back h))) ∙ parts_word w negative front (46 ∷ back) p refl

use Rattle.std.proofs.Common.{⊎_elim, zero, suc, true, false, Some, add-one, Err, ◌≡◌, ℕ, ◌+◌, ◌<◌, ◌≤◌, cond, eqb, ltb, List, length, get_or, drop, None, refl, ap, ◌∙◌, arith}
use Rattle.std.proofs.lemmas.List.{at_drop_more, at_drop_all}
use Rattle.lines.specs.declared.scan.LineFault.TheVariants as faults
use Rattle.std.proofs.lemmas.Bool.{cases_lt, lt-ltb}
use Rattle.std.proofs.lemmas.Bool.Decides.{nat_tests}
use Rattle.std.proofs.lemmas.List.Quantifiers.{position-Some}
use Rattle.std.proofs.lemmas.List.Sums.{fails_before_first}
use Rattle.std.specs.List.{position, position_or_len}
use Rattle.lines.specs.Lines.{unprintable, ended, line_end}

-- one byte further
pub end_more : (xs : List ℕ) (n : ℕ) → n < length xs → line_end n (drop n xs) ≡ cond (eqb (get_or xs n 0) 10) (ended n) (cond (ltb (get_or xs n 0) 32) (Err faults.Forbidden) (cond (ltb 126 (get_or xs n 0)) (Err faults.Forbidden) (line_end (n + 1) (drop (n + 1) xs))))
end_more xs n h = at_drop_more (line_end n) xs n 0 h

pub end_all : (xs : List ℕ) (n : ℕ) → length xs ≤ n → line_end n (drop n xs) ≡ (Err faults.Forbidden)
end_all xs n h = at_drop_all (line_end n) xs n h

-- the bytes up to n belong to a line
end_step : (xs : List ℕ) (n : ℕ) → n < length xs → unprintable (get_or xs n 0) ≡ false → line_end n (drop n xs) ≡ line_end (n + 1) (drop (n + 1) xs)
end_step xs n h f = grind (arith, nat_tests, end_more)

end_to : (xs : List ℕ) (n : ℕ) → n ≤ length xs → ((k : ℕ) → k < n → unprintable (get_or xs k 0) ≡ false) → line_end 0 xs ≡ line_end n (drop n xs)
end_to xs zero h all = refl
end_to xs (suc n) h all =
    end_to xs n (omega arith) (λ k l. all k (omega arith)) ∙ end_step xs n (omega arith) (all n (omega arith)) ∙ ap (λ k. line_end k (drop k xs)) (add-one n)

end_here : (xs : List ℕ) (n : ℕ) → n < length xs → unprintable (get_or xs n 0) ≡ true → line_end n (drop n xs) ≡ cond (eqb (get_or xs n 0) 10) (ended n) (Err faults.Forbidden)
end_here xs n h f = grind (arith, nat_tests, end_more)

pub end_found : (xs : List ℕ) (n : ℕ) → position unprintable xs ≡ Some n → line_end 0 xs ≡ cond (eqb (get_or xs n 0) 10) (ended n) (Err faults.Forbidden)
end_found xs n e = let p = position-Some unprintable xs n 0 e in end_to xs n (omega arith) (λ k h. p.2 k h) ∙ end_here xs n p.0 p.1

pub end_none : (xs : List ℕ) → position unprintable xs ≡ None → line_end 0 xs ≡ Err faults.Forbidden
end_none xs e =
    let n = position_or_len unprintable xs in
    ⊎_elim
    (λ (h : n < length xs). let some : position unprintable xs ≡ Some n = rw (lt-ltb n (length xs) h) in cc)
    (λ (h : length xs ≤ n). end_to xs (length xs) (omega arith) (λ k l. fails_before_first unprintable xs k 0 (omega arith)) ∙ end_all xs (length xs) (omega arith))
    (cases_lt n (length xs))

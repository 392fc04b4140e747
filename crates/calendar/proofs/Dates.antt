use Rattle.std.proofs.Common.{map, sum, ◌≡◌, ℕ, zero, suc, ◌+◌, ◌-◌, ◌<◌, ◌≤◌, true, false, leb, ◌⊎◌, Some, None, sym, refl, ap, ◌∙◌, ⊎_elim, add-one, arith}
use Rattle.std.specs.List.{range_with_len}
use Rattle.std.proofs.lemmas.List.FromFn.{map-range_with_len_more}
use Rattle.std.proofs.lemmas.List.Sums.{sum_by_push}
use Rattle.std.proofs.lemmas.Bool.{le-leb, leb-true, leb-false, and_from, and_parts, cond_both, cond-true, cases_Bool, cases_lt}
use Rattle.calendar.specs.declared.date.Date.{Date}
use Rattle.calendar.specs.Dates.{leap, days_in_year, short, days_in_month, days_of_years, days_before_year, days_before_month, day_number, date_exists, day_exists, last_started, year_of, day_of_year, month_of, date_of, date_if, DaysInCalendar, DaysInOrder, EveryDayHasItsDate, EveryDateIsOfItsDay, DateEdges}

-- what does not fall from one place to the next does not fall at all
rises : (f : ℕ → ℕ) → ((n : ℕ) → f n ≤ f (suc n)) → (m n : ℕ) → m ≤ n → f m ≤ f n
rises f up m zero h = let e : m ≡ 0 = omega arith in rw e (omega arith)
rises f up m (suc n) h =
    ⊎_elim
    (λ (l : m < suc n). let k : m ≤ n = omega arith in omega (arith, rises f up m n k, up n))
    (λ (l : suc n ≤ m). let e : m ≡ suc n = omega arith in rw e (omega arith))
    (cases_lt m (suc n))

-- last_started f n x

last_le : (f : ℕ → ℕ) (n x : ℕ) → last_started f n x ≤ n
unfolding last_started
last_le f zero x = omega arith
last_le f (suc n) x =
    cond_both (leb (f (suc n)) x) (suc n) (last_started f n x) (λ k. k ≤ suc n) (λ e. omega arith) (λ e. omega (arith, last_le f n x))

last_started_lem : (f : ℕ → ℕ) (n x : ℕ) → f 0 ≤ x → f (last_started f n x) ≤ x
unfolding last_started
last_started_lem f zero x h = h
last_started_lem f (suc n) x h =
    cond_both (leb (f (suc n)) x) (suc n) (last_started f n x) (λ k. f k ≤ x) (λ e. leb-true (f (suc n)) x e) (λ e. last_started_lem f n x h)

not_started : (f : ℕ → ℕ) (n x k : ℕ) → last_started f n x < k → k ≤ n → x < f k
unfolding last_started
not_started f zero x k = λ l h. absurd (omega arith)
not_started f (suc n) x k =
    cond_both (leb (f (suc n)) x) (suc n) (last_started f n x) (λ j. j < k → k ≤ suc n → x < f k)
    (λ e l h. absurd (omega arith))
    (λ e l h.
    ⊎_elim
    (λ (s : k < suc n). let g : k ≤ n = omega arith in not_started f n x k l g)
    (λ (s : suc n ≤ k). let g : k ≡ suc n = omega arith in rw g (leb-false (f (suc n)) x e))
    (cases_lt k (suc n)))

next_not_started : (f : ℕ → ℕ) (n x : ℕ) → x < f (suc n) → x < f (suc (last_started f n x))
next_not_started f n x h =
    let l = last_le f n x in
    ⊎_elim
    (λ (s : last_started f n x < n). not_started f n x (suc (last_started f n x)) (omega arith) (omega arith))
    (λ (s : n ≤ last_started f n x). let g : last_started f n x ≡ n = omega arith in rw g h)
    (cases_lt (last_started f n x) n)

last_is : (f : ℕ → ℕ) → ((n : ℕ) → f n ≤ f (suc n)) → (n x k : ℕ) → k ≤ n → f k ≤ x → x < f (suc k) → last_started f n x ≡ k
last_is f up n x k h a b =
    let s = last_started_lem f n x (omega (arith, rises f up 0 k (omega arith))) in
    ⊎_elim
    (λ (l : last_started f n x < k). absurd (omega (arith, not_started f n x k l h)))
    (λ (l : k ≤ last_started f n x).
    ⊎_elim
    (λ (m : k < last_started f n x). absurd (omega (arith, rises f up (suc k) (last_started f n x) (omega arith))))
    (λ (m : last_started f n x ≤ k). omega arith)
    (cases_lt k (last_started f n x)))
    (cases_lt (last_started f n x) k)

-- years

pub year_length : (y : ℕ) → (365 ≤ days_in_year y) × (days_in_year y ≤ 366)
unfolding days_in_year
year_length y = cond_both (leap y) 366 365 (λ n. (365 ≤ n) × (n ≤ 366)) (λ e. (omega arith, omega arith)) (λ e. (omega arith, omega arith))

years_up : (n : ℕ) → days_of_years n ≤ days_of_years (suc n)
unfolding days_of_years
years_up n = omega arith

pub year_step : (y : ℕ) → 1970 ≤ y → days_of_years (suc (y - 1970)) ≡ days_before_year y + days_in_year y
unfolding days_of_years
year_step y h = let e : 1970 + (y - 1970) ≡ y = omega arith in rw e

pub year_more : (y : ℕ) → 1970 ≤ y → days_before_year (y + 1) ≡ days_before_year y + days_in_year y
year_more y h = let e : y + 1 - 1970 ≡ suc (y - 1970) = omega arith in ap days_of_years e ∙ year_step y h

-- the periods before one of them, summed
more_sum : (f : ℕ → ℕ) (a n : ℕ) → sum (map f (range_with_len a (n + 1))) ≡ sum (map f (range_with_len a n)) + f (a + n)
more_sum f a n = ap sum (map-range_with_len_more f a n (a + n) refl) ∙ sum_by_push (λ x. x) (map f (range_with_len a n)) (f (a + n))

years_from : (n : ℕ) → sum (map days_in_year (range_with_len 1970 n)) ≡ days_of_years n
unfolding days_of_years
years_from zero = refl
years_from (suc n) = let e : suc n ≡ n + 1 = omega arith in ap (λ k. sum (map days_in_year (range_with_len 1970 k))) e ∙ more_sum days_in_year 1970 n ∙ ap (λ k. k + days_in_year (1970 + n)) (years_from n)

pub years_sum : (y : ℕ) → sum (map days_in_year (range_with_len 1970 (y - 1970))) ≡ days_before_year y
years_sum y = years_from (y - 1970)

pub no_years : days_of_years 0 ≡ 0
unfolding days_of_years
no_years = refl

pub all_years : days_of_years 130 ≡ 47482
unfolding days_of_years days_in_year leap
all_years = refl

pub year_fits : (y : ℕ) → 1970 ≤ y → y ≤ 2099 → days_before_year y + days_in_year y ≤ 47482
year_fits y l h = omega (arith, all_years, year_step y l, rises days_of_years years_up (suc (y - 1970)) 130 (omega arith))

-- the days left in a year, which is the last one where none is after it
pub year_left : (y left : ℕ) → 1970 ≤ y → y ≤ 2099 → days_before_year y + left < 47482 → (y < 2099 → (n : ℕ) × (n ≡ days_in_year y) × (left < n)) → left < days_in_year y
year_left y left l h days long =
    ⊎_elim (λ (k : y < 2099). let t = long k in omega arith) (λ (k : 2099 ≤ y). let e : y ≡ 2099 = omega arith in omega (arith, all_years, year_step y l, ap (λ z. days_of_years (suc (z - 1970))) e)) (cases_lt y 2099)

-- months

pub month_step : (y m : ℕ) → days_before_month y (suc m) ≡ days_before_month y m + days_in_month y m
unfolding days_before_month
month_step y m = refl

months_up : (y m : ℕ) → days_before_month y m ≤ days_before_month y (suc m)
months_up y m = omega (arith, month_step y m)

pub first_month : (y : ℕ) → days_before_month y 1 ≡ 0
unfolding days_before_month days_in_month
first_month y = refl

-- twelve months make a year
pub all_months : (y : ℕ) → days_before_month y 13 ≡ days_in_year y
unfolding days_before_month days_in_month short days_in_year
all_months y = ⊎_elim (λ (e : leap y ≡ true). rw e) (λ (e : leap y ≡ false). rw e) (cases_Bool (leap y))

months_from : (y n : ℕ) → sum (map (days_in_month y) (range_with_len 1 n)) ≡ days_before_month y (suc n)
months_from y zero = sym (first_month y)
months_from y (suc n) =
    let e : suc n ≡ n + 1 = omega arith in
    let f : 1 + n ≡ suc n = omega arith in
    ap (λ k. sum (map (days_in_month y) (range_with_len 1 k))) e ∙ more_sum (days_in_month y) 1 n ∙ ap (λ k. k + days_in_month y (1 + n)) (months_from y n) ∙ ap (λ k. days_before_month y (suc n) + days_in_month y k) f ∙ sym (month_step y (suc n))

pub months_sum : (y m : ℕ) → 1 ≤ m → sum (map (days_in_month y) (range_with_len 1 (m - 1))) ≡ days_before_month y m
months_sum y m h = let e : suc (m - 1) ≡ m = omega arith in months_from y (m - 1) ∙ ap (days_before_month y) e

pub month_fits : (y m : ℕ) → m ≤ 12 → days_before_month y m + days_in_month y m ≤ days_in_year y
month_fits y m h = omega (arith, month_step y m, all_months y, rises (days_before_month y) (months_up y) (suc m) 13 (omega arith))

pub month_more : (y m : ℕ) → days_before_month y (m + 1) ≡ days_before_month y m + days_in_month y m
month_more y m = rw add-one (month_step y m)

pub month_left : (y m left : ℕ) → m ≤ 12 → days_before_month y m + left < days_in_year y → (m < 12 → (n : ℕ) × (n ≡ days_in_month y m) × (left < n)) → left < days_in_month y m
month_left y m left h days long =
    ⊎_elim (λ (k : m < 12). let t = long k in omega arith) (λ (k : 12 ≤ m). let e : m ≡ 12 = omega arith in omega (arith, all_months y, month_step y m, ap (λ z. days_before_month y (suc z)) e)) (cases_lt m 12)

-- the days of an existing date

pub exists_parts : (d : Date) → date_exists d ≡ true → (1970 ≤ d.year) × (d.year ≤ 2099) × (1 ≤ d.month) × (d.month ≤ 12) × (1 ≤ d.day) × (d.day ≤ days_in_month d.year d.month)
exists_parts d h =
    let a = and_parts _ _ h in
    let b = and_parts _ _ a.1 in
    let e = and_parts _ _ b.1 in
    let f = and_parts _ _ e.1 in
    let g = and_parts _ _ f.1 in
    (leb-true _ _ a.0, leb-true _ _ b.0, leb-true _ _ e.0, leb-true _ _ f.0, leb-true _ _ g.0, leb-true _ _ g.1)

pub exists_from : (d : Date) → 1970 ≤ d.year → d.year ≤ 2099 → 1 ≤ d.month → d.month ≤ 12 → 1 ≤ d.day → d.day ≤ days_in_month d.year d.month → date_exists d ≡ true
exists_from d a b e f g h =
    and_from _ _ (le-leb _ _ a) (and_from _ _ (le-leb _ _ b) (and_from _ _ (le-leb _ _ e) (and_from _ _ (le-leb _ _ f) (and_from _ _ (le-leb _ _ g) (le-leb _ _ h)))))

pub day_parts : (n : ℕ) → day_exists n ≡ true → (40587 ≤ n) × (n ≤ 88068)
day_parts n h = let a = and_parts _ _ h in (leb-true _ _ a.0, leb-true _ _ a.1)

pub days_in_calendar : DaysInCalendar
days_in_calendar d h =
    let p = exists_parts d h in
    let y = year_fits d.year p.0 p.1 in
    let m = month_fits d.year d.month p.3 in
    (omega arith, omega arith)

pub days_in_order : DaysInOrder
days_in_order d e h k o =
    let p = exists_parts d h in
    let q = exists_parts e k in
    let m = month_fits d.year d.month p.3 in
    ⊎_elim
    (λ (l : d.year < e.year).
    omega (arith, year_step d.year p.0, rises days_of_years years_up (suc (d.year - 1970)) (e.year - 1970) (omega arith)))
    (λ (s : (d.year ≡ e.year) × ((d.month < e.month) ⊎ ((d.month ≡ e.month) × (d.day < e.day)))).
    let y = ap days_before_year s.0 in
    let n = ap (λ (x : ℕ). days_before_month x e.month) s.0 in
    ⊎_elim
    (λ (l : d.month < e.month).
    omega (arith, month_step d.year d.month, rises (days_before_month d.year) (months_up d.year) (suc d.month) e.month (omega arith)))
    (λ (t : (d.month ≡ e.month) × (d.day < e.day)). omega (arith, ap (λ (x : ℕ). days_before_month d.year x) t.0))
    s.1)
    o

-- the date of a day

pub date_of_is : (n : ℕ) (d : Date) → date_exists d ≡ true → n ≡ day_number d → date_of n ≡ d
unfolding year_of day_of_year month_of
date_of_is n d h e =
    let p = exists_parts d h in
    let f = month_fits d.year d.month p.3 in
    let s = year_step d.year p.0 in
    let k : last_started days_of_years 129 (n - 40587) ≡ d.year - 1970 =
    last_is days_of_years years_up 129 (n - 40587) (d.year - 1970) (omega arith) (omega arith) (omega arith) in
    let y : year_of n ≡ d.year = omega arith in
    let z : day_of_year n ≡ days_before_month d.year d.month + (d.day - 1) = omega (arith, ap days_before_year y) in
    let t = month_step d.year d.month in
    let m : month_of n ≡ d.month =
    ap (λ (x : ℕ). last_started (days_before_month x) 12 (day_of_year n)) y
    ∙ last_is (days_before_month d.year) (months_up d.year) 12 (day_of_year n) d.month p.3 (omega arith) (omega arith) in
    let b : days_before_month (year_of n) (month_of n) ≡ days_before_month d.year d.month =
    ap (λ (x : ℕ). days_before_month x (month_of n)) y ∙ ap (λ (x : ℕ). days_before_month d.year x) m in
    let x : day_of_year n - days_before_month (year_of n) (month_of n) + 1 ≡ d.day = omega arith in
    λ i. record { year = y i; month = m i; day = x i }

pub date_if_is : (n : ℕ) (d : Date) → date_exists d ≡ true → n ≡ day_number d → Some d ≡ date_if n
date_if_is n d h e =
    let r = days_in_calendar d h in
    let l : 40587 ≤ n = omega arith in
    let u : n ≤ 88068 = omega arith in
    ap Some (sym (date_of_is n d h e)) ∙ sym (cond-true (day_exists n) (Some (date_of n)) None (and_from _ _ (le-leb 40587 n l) (le-leb n 88068 u)))

pub every_date_is_of_its_day : EveryDateIsOfItsDay
every_date_is_of_its_day d h = date_of_is (day_number d) d h refl

pub every_day_has_its_date : EveryDayHasItsDate
unfolding year_of day_of_year month_of
every_day_has_its_date n h =
    let r = day_parts n h in
    let x : ℕ = n - 40587 in
    let k : ℕ = last_started days_of_years 129 x in
    let back : 1970 + k - 1970 ≡ k = omega arith in
    let same : days_before_year (year_of n) ≡ days_of_years k = ap days_of_years back in
    let next : days_of_years (suc (year_of n - 1970)) ≡ days_of_years (suc k) = ap (λ (j : ℕ). days_of_years (suc j)) back in
    let y0 = last_le days_of_years 129 x in
    let y1 = last_started_lem days_of_years 129 x (omega (arith, no_years)) in
    let y2 = next_not_started days_of_years 129 x (omega (arith, all_years)) in
    let y3 = year_step (year_of n) (omega arith) in
    let f : ℕ → ℕ = days_before_month (year_of n) in
    let m0 = last_le f 12 (day_of_year n) in
    let m1 = last_started_lem f 12 (day_of_year n) (omega (arith, months_up (year_of n) 0, first_month (year_of n))) in
    let m2 = next_not_started f 12 (day_of_year n) (omega (arith, all_months (year_of n))) in
    let m3 = month_step (year_of n) (month_of n) in
    let m4 : 1 ≤ month_of n =
    ⊎_elim
    (λ (l : month_of n < 1). absurd (omega (arith, first_month (year_of n), not_started f 12 (day_of_year n) 1 l (omega arith))))
    (λ (l : 1 ≤ month_of n). l)
    (cases_lt (month_of n) 1) in
    (exists_from (date_of n) (omega arith) (omega arith) m4 m0 (omega arith) (omega arith), omega arith)

pub date_edges : DateEdges
unfolding days_of_years days_in_year leap days_before_month days_in_month short
date_edges = (refl, refl, refl, refl, refl)

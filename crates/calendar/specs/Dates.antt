use Rattle.std.specs.Prelude.{◌≡◌, ℕ, zero, suc, ◌+◌, ◌-◌, ◌%◌, ◌<◌, ◌≤◌, Bool, true, false, cond, not, ◌&&◌, ◌||◌, ◌⊎◌, Some, None, Option, ◌==◌, nat_le}
use Rattle.calendar.specs.declared.date.Date.{Date}

-- divisible by 4, and not by 100 unless by 400
unfoldable pub leap : ℕ → Bool
leap y = y % 4 == 0 && (not (y % 100 == 0) || y % 400 == 0)

unfoldable pub days_in_year : ℕ → ℕ
days_in_year y = cond (leap y) 366 365

-- April, June, September and November
unfoldable pub short : ℕ → Bool
short m = m == 4 || (m == 6 || (m == 9 || m == 11))

-- 0 where there is no such month
unfoldable pub days_in_month : ℕ → ℕ → ℕ
days_in_month y m = cond (nat_le 1 m && nat_le m 12) (cond (m == 2) (cond (leap y) 29 28) (cond (short m) 30 31)) 0

-- the days of the first n years from 1970 on
unfoldable pub days_of_years : ℕ → ℕ
days_of_years zero = 0
days_of_years (suc n) = days_of_years n + days_in_year (1970 + n)

-- the days from 1 January 1970 to the start of a year
abbrev pub days_before_year : ℕ → ℕ
days_before_year y = days_of_years (y - 1970)

-- the days from the start of a year to the start of its month
unfoldable pub days_before_month : ℕ → ℕ → ℕ
days_before_month y zero = 0
days_before_month y (suc m) = days_before_month y m + days_in_month y m

-- the modified Julian day; 1 January 1970 is 40587
abbrev pub day_number : Date → ℕ
day_number d = 40587 + days_before_year d.year + days_before_month d.year d.month + (d.day - 1)

abbrev pub date_exists : Date → Bool
date_exists d =
    nat_le 1970 d.year && (nat_le d.year 2099 && (nat_le 1 d.month && (nat_le d.month 12 && (nat_le 1 d.day && nat_le d.day (days_in_month d.year d.month)))))

-- the calendar's days: 1 January 1970 to 31 December 2099
abbrev pub day_exists : ℕ → Bool
day_exists n = nat_le 40587 n && nat_le n 88068

-- the last of the places 0 to n that starts at x or before it
unfoldable pub last_started : (ℕ → ℕ) → ℕ → ℕ → ℕ
last_started start zero x = 0
last_started start (suc n) x = cond (nat_le (start (suc n)) x) (suc n) (last_started start n x)

-- start gives the days before each of the periods from first to last, which have the lengths given
abbrev pub StartsBy : (ℕ → ℕ → Type 0) → ℕ → ℕ → (ℕ → ℕ) → Type 0
StartsBy Long first last start = (p r : ℕ) → first ≤ p → p < last → Long p r → start (p + 1) ≡ start p + r

-- the year and the month of a day, and the day of the month from 0
unfoldable pub year_of : ℕ → ℕ
year_of n = 1970 + last_started days_of_years 129 (n - 40587)

unfoldable pub day_of_year : ℕ → ℕ
day_of_year n = n - 40587 - days_before_year (year_of n)

unfoldable pub month_of : ℕ → ℕ
month_of n = last_started (days_before_month (year_of n)) 12 (day_of_year n)

abbrev pub date_of : ℕ → Date
date_of n = record { year = year_of n; month = month_of n; day = day_of_year n - days_before_month (year_of n) (month_of n) + 1 }

-- the day number of a date, and the date of a day number, where there is one
abbrev pub day_if : Date → Option ℕ
day_if d = cond (date_exists d) (Some (day_number d)) None

abbrev pub date_if : ℕ → Option Date
date_if n = cond (day_exists n) (Some (date_of n)) None

-- the order of dates: less at the first of year, month and day where they differ
abbrev pub Earlier : Date → Date → Type 0
Earlier d e =
    (d.year < e.year)
    ⊎ ((d.year ≡ e.year) × ((d.month < e.month) ⊎ ((d.month ≡ e.month) × (d.day < e.day))))

-- what is proved of them

abbrev pub DaysInCalendar : Type 0
DaysInCalendar = (d : Date) → date_exists d ≡ true → (40587 ≤ day_number d) × (day_number d ≤ 88068)

abbrev pub DaysInOrder : Type 0
DaysInOrder = (d e : Date) → date_exists d ≡ true → date_exists e ≡ true → Earlier d e → day_number d < day_number e

abbrev pub EveryDayHasItsDate : Type 0
EveryDayHasItsDate = (n : ℕ) → day_exists n ≡ true → (date_exists (date_of n) ≡ true) × (day_number (date_of n) ≡ n)

abbrev pub EveryDateIsOfItsDay : Type 0
EveryDateIsOfItsDay = (d : Date) → date_exists d ≡ true → date_of (day_number d) ≡ d

abbrev on : ℕ → ℕ → ℕ → Date
on y m d = record { year = y; month = m; day = d }

abbrev pub DateEdges : Type 0
DateEdges =
    (day_number (on 1970 1 1) ≡ 40587) × (day_number (on 2000 1 1) ≡ 51544) × (day_number (on 2099 12 31) ≡ 88068)
    × (date_exists (on 2000 2 29) ≡ true) × (date_exists (on 1999 2 29) ≡ false)

-- H2 states the span of the rows, and is read back.
use Rattle.std.proofs.Common.{◌≡◌, ℕ, ◌+◌, ◌-◌, ◌*◌, ◌/◌, ◌%◌, ◌<◌, ◌≤◌, Bool, true, false, cond, ◌&&◌, eqb, leb, List, [], ◌∷◌, pos, Some, None, unwrap_or, refl, ap, ◌∙◌, arith}
use lib.Signed.{le_z}
use Rattle.std.proofs.lemmas.Bool.{le-leb, and_from, eq-eqb, leb-true, cond_both}
use Rattle.calendar.specs.declared.instant.Instant.{Instant}
use Rattle.calendar.specs.Dates.{date_of, day_exists, day_if, day_number, leap, short, days_in_month}
use Rattle.calendar.proofs.Dates.{exists_parts, every_day_has_its_date}
use Rattle.calendar.specs.Instants.{moment}
use Rattle.cells.specs.declared.summary.DaySecond.{DaySecond}
use Rattle.cells.specs.declared.summary.Cells.{Cells}
use Rattle.cells.specs.Cells.{seconds_if, step_seconds, every_step, interval_of, last_of, day_second, cells_of}
use Rattle.model.specs.declared.Row.{Row}
use Rattle.model.specs.declared.header.Satellite.{Satellite}
use Rattle.records.specs.declared.field.Field.{Field}
use Rattle.records.specs.declared.record.Record.TheVariants.{H2}
use Rattle.records.specs.Fields.{in_bounds, date_number}
use Rattle.records.specs.Tables as table
use Rattle.reading.specs.Builds.{span_of, second_at}
use Rattle.reading.specs.Ends.{same_second, span_agrees}
use Rattle.writing.specs.Values.{whole, satellite_values}
use Rattle.round_trip.specs.Goods.{GoodNumber, GoodValues}
use Rattle.round_trip.specs.Contents.{GoodSatellite}

-- the second of a day of the calendar
pub record GoodSecond (t : DaySecond) : Type 0 where
  pub day : day_exists t.day ≡ true
  pub second : t.second < 86400

pub record GoodCells (c : Cells) : Type 0 where
  pub start : GoodSecond c.start
  pub end : GoodSecond c.end
  pub interval : c.interval ≤ 99999

-- the cells of rows are good
good_second : (i : Instant) → GoodSecond (day_second i)
good_second i =
    let b = i.in_calendar in
    record { day = and_from _ _ (le-leb 40587 i.day b.0) (le-leb i.day 88068 b.1); second = omega (arith, b.2) }

seconds_le : (n : ℕ) → seconds_if n ≤ 99999
seconds_le n = by (eqb (n % 1000000) 0) (leb (n / 1000000) 99999) refl
  where
    by : (a b : Bool) → leb (n / 1000000) 99999 ≡ b → cond (a && b) (n / 1000000) 0 ≤ 99999
    by true true e = leb-true (n / 1000000) 99999 e
    by true false e = omega arith
    by false b e = omega arith

interval_le : (rs : List Row) → interval_of rs ≤ 99999
interval_le [] = omega arith
interval_le (r ∷ []) = omega arith
interval_le (r ∷ (s ∷ rs)) =
    cond_both (every_step (step_seconds r.at s.at) s.at rs) (step_seconds r.at s.at) 0 (λ n. n ≤ 99999) (λ _. seconds_le (moment s.at - moment r.at)) (λ _. omega arith)

pub good_cells : (r : Row) (rs : List Row) → GoodCells (cells_of r rs)
good_cells r rs = record { start = good_second r.at; end = good_second (last_of r.at rs); interval = interval_le (r ∷ rs) }

-- a part of a date or a time as a value
date_number_lem : (n : ℕ) → n ≤ 9999 → date_number (whole n) ≡ n
date_number_lem n h =
    let a : leb 0 n ≡ true = le-leb 0 n (omega arith) in
    let b : leb n 9999 ≡ true = le-leb n 9999 h in
    rw (a, b)

good_whole : (f : Field) (low high n : ℕ) → f.least ≡ pos low → f.greatest ≡ pos high → low ≤ n → n ≤ high → in_bounds f (pos n) ≡ true
good_whole f low high n l h a b = and_from _ _ (ap (λ z. le_z z (pos n)) l ∙ le-leb low n a) (ap (le_z (pos n)) h ∙ le-leb n high b)

good_number : (f : Field) (low high n : ℕ) → f.least ≡ pos low → f.greatest ≡ pos high → low ≤ n → n ≤ high → GoodNumber f (whole n)
good_number f low high n l h a b = record { number = pos n; is = refl; inside = good_whole f low high n l h a b }

month_le : (y m : ℕ) → days_in_month y m ≤ 31
unfolding days_in_month
month_le y m =
    let P : ℕ → Type 0 = λ n. n ≤ 31 in
    cond_both (leb 1 m && leb m 12) (cond (eqb m 2) (cond (leap y) 29 28) (cond (short m) 30 31)) 0 P
    (λ _. cond_both (eqb m 2) (cond (leap y) 29 28) (cond (short m) 30 31) P (λ _. cond_both (leap y) 29 28 P (λ _. omega arith) (λ _. omega arith)) (λ _. cond_both (short m) 30 31 P (λ _. omega arith) (λ _. omega arith)))
    (λ _. omega arith)

-- the date of a day of the calendar
module _ (d : ℕ) (e : day_exists d ≡ true) where
  parts : (1970 ≤ (date_of d).year) × ((date_of d).year ≤ 2099) × (1 ≤ (date_of d).month) × ((date_of d).month ≤ 12) × (1 ≤ (date_of d).day) × ((date_of d).day ≤ days_in_month (date_of d).year (date_of d).month)
  parts = exists_parts (date_of d) (every_day_has_its_date d e).0

  year_is : date_number (whole (date_of d).year) ≡ (date_of d).year
  year_is = let p = parts in date_number_lem (date_of d).year (omega arith)

  month_is : date_number (whole (date_of d).month) ≡ (date_of d).month
  month_is = let p = parts in date_number_lem (date_of d).month (omega arith)

  day_is : date_number (whole (date_of d).day) ≡ (date_of d).day
  day_is = let p = parts in let m = month_le (date_of d).year (date_of d).month in date_number_lem (date_of d).day (omega arith)

  good_year : GoodNumber table.year (whole (date_of d).year)
  good_year = let p = parts in good_number table.year 1970 2099 (date_of d).year refl refl (omega arith) (omega arith)

  good_month : GoodNumber table.month (whole (date_of d).month)
  good_month = let p = parts in good_number table.month 1 12 (date_of d).month refl refl (omega arith) (omega arith)

  day_exists_lem : le_z (pos (date_of d).day) (pos (days_in_month (date_number (whole (date_of d).year)) (date_number (whole (date_of d).month)))) ≡ true
  day_exists_lem = rw (year_is, month_is) (le-leb _ _ parts.5)

  date_back : unwrap_or (day_if (record { year = date_number (whole (date_of d).year); month = date_number (whole (date_of d).month); day = date_number (whole (date_of d).day) })) 0 ≡ d
  date_back =
      ap (λ x. unwrap_or (day_if x) 0) (λ i. record { year = year_is i; month = month_is i; day = day_is i })
      ∙ ap (λ b. unwrap_or (cond b (Some (day_number (date_of d))) None) 0) (every_day_has_its_date d e).0 ∙ (every_day_has_its_date d e).1

  good_day : in_bounds table.day (pos (date_of d).day) ≡ true
  good_day = let p = parts in let m = month_le (date_of d).year (date_of d).month in good_whole table.day 1 31 (date_of d).day refl refl (omega arith) (omega arith)

-- the time of a second of the day
module _ (n : ℕ) (h : n < 86400) where
  good_hour : GoodNumber table.hour (whole (n / 3600))
  good_hour = good_number table.hour 0 23 (n / 3600) refl refl (omega arith) (omega arith)

  good_minute : GoodNumber table.minute (whole (n / 60 % 60))
  good_minute = good_number table.minute 0 59 (n / 60 % 60) refl refl (omega arith) (omega arith)

  good_sixtieth : GoodNumber table.second (whole (n % 60))
  good_sixtieth = good_number table.second 0 59 (n % 60) refl refl (omega arith) (omega arith)

  time_back : date_number (whole (n / 3600)) * 3600 + date_number (whole (n / 60 % 60)) * 60 + date_number (whole (n % 60)) ≡ n
  time_back = omega (arith, date_number_lem (n / 3600) (omega arith), date_number_lem (n / 60 % 60) (omega arith), date_number_lem (n % 60) (omega arith))

same_second_lem : (a b : DaySecond) → a.day ≡ b.day → a.second ≡ b.second → same_second a b ≡ true
same_second_lem a b d s = and_from _ _ (eq-eqb _ _ d) (eq-eqb _ _ s)

-- H2 of good cells
module _ (s : Satellite) (c : Cells) (g : GoodCells c) where
  pub span_agrees_lem : span_agrees (span_of (satellite_values s c)) c ≡ true
  span_agrees_lem =
      and_from _ _ (same_second_lem (second_at (satellite_values s c) 3) c.start (date_back c.start.day g.start.day) (time_back c.start.second g.start.second))
      (and_from _ _ (same_second_lem (second_at (satellite_values s c) 9) c.end (date_back c.end.day g.end.day) (time_back c.end.second g.end.second))
      (and_from _ _ (le-leb 0 c.interval (omega arith)) (eq-eqb c.interval c.interval refl)))

  pub good_h2 : GoodSatellite s → GoodValues H2 (satellite_values s c)
  good_h2 k =
      let a = g.start in
      let b = g.end in
      record {
        count = refl;
        each = (
          record { number = s.ilrs_number; is = refl; inside = k.ilrs_number },
          (
            record { number = s.sic; is = refl; inside = k.sic },
            (
              record { number = s.norad_number; is = refl; inside = k.norad_number },
              (
                good_year _ a.day,
                (
                  good_month _ a.day,
                  (
                    record { number = pos (date_of c.start.day).day; is = refl; inside = good_day _ a.day; exists = day_exists_lem _ a.day },
                    (
                      good_hour _ a.second,
                      (
                        good_minute _ a.second,
                        (
                          good_sixtieth _ a.second,
                          (
                            good_year _ b.day,
                            (
                              good_month _ b.day,
                              (
                                record { number = pos (date_of c.end.day).day; is = refl; inside = good_day _ b.day; exists = day_exists_lem _ b.day },
                                (
                                  good_hour _ b.second,
                                  (
                                    good_minute _ b.second,
                                    (
                                      good_sixtieth _ b.second,
                                      (
                                        good_number table.interval 0 99999 c.interval refl refl (omega arith) g.interval,
                                        (
                                          record { number = s.tiv_compatible; is = refl; inside = k.tiv_compatible },
                                          (
                                            record { number = s.target_class; is = refl; inside = k.target_class },
                                            (
                                              record { number = s.frame; is = refl; inside = k.frame },
                                              (
                                                record { number = s.rotation; is = refl; inside = k.rotation },
                                                (
                                                  record { number = s.centre_of_mass; is = refl; inside = k.centre_of_mass },
                                                  (record { number = s.location; is = refl; inside = k.location }, tt),
                                                ),
                                              ),
                                            ),
                                          ),
                                        ),
                                      ),
                                    ),
                                  ),
                                ),
                              ),
                            ),
                          ),
                        ),
                      ),
                    ),
                  ),
                ),
              ),
            ),
          ),
        );
      }

-- Gregorian dates from 1900 to 2199, and ages. Request 1.
use Rattle.std.specs.Prelude.{Bool, cond, not, ◌&&◌, ◌||◌, List, [], ◌∷◌, ℕ, zero, suc, ◌+◌, ◌-◌, ◌%◌, eqb, ltb, leb, get_or, take, ℤ}
use Rattle.std.proofs.Math.IntN.{sub_ℕ}
use Rattle.model.specs.Required.{total}

pub record Date : Type 0 where
  pub year : ℕ
  pub month : ℕ
  pub day : ℕ

abbrev pub leap : ℕ → Bool
leap y = eqb (y % 4) 0 && (not (eqb (y % 100) 0) || eqb (y % 400) 0)

-- How many days each month of a year has, from January on. A month's number is its place, and what is no month has no day.
abbrev pub months : ℕ → List ℕ
months y = 31 ∷ cond (leap y) 29 28 ∷ 31 ∷ 30 ∷ 31 ∷ 30 ∷ 31 ∷ 31 ∷ 30 ∷ 31 ∷ 30 ∷ 31 ∷ []

abbrev pub month_days : ℕ → ℕ → ℕ
month_days y m = get_or (0 ∷ months y) m 0

abbrev pub first_year : ℕ
first_year = 1900

abbrev pub last_year : ℕ
last_year = 2199

abbrev pub exists : Date → Bool
exists d = leb first_year d.year && leb d.year last_year && leb 1 d.day && leb d.day (month_days d.year d.month)

-- Year, month and day all 0: unknown. A date with some zeros doesn't exist.
abbrev pub unknown_date : Date → Bool
unknown_date d = eqb d.year 0 && eqb d.month 0 && eqb d.day 0

-- ---- days since 1900-01-01: those of the years, of the months and of the month before it
abbrev pub years_days : ℕ → ℕ
years_days zero = 0
years_days (suc n) = years_days n + total (months (first_year + n))

abbrev pub day_number : Date → ℕ
day_number d = years_days (d.year - first_year) + total (take (d.month - 1) (months d.year)) + (d.day - 1)

-- ---- anniversaries
-- One date stands before another: by the year, then the month, then the day.
abbrev pub before : Date → Date → Bool
before a b = ltb a.year b.year || (eqb a.year b.year && (ltb a.month b.month || (eqb a.month b.month && ltb a.day b.day)))

-- The anniversary of a date in a year: that of 29 February falls on 1 March in common years.
abbrev pub leap_day : Date → Bool
leap_day d = eqb d.month 2 && eqb d.day 29

abbrev pub anniversary_in : Date → ℕ → Date
anniversary_in d y = cond (leap_day d && not (leap y)) (record { year = y; month = 3; day = 1 }) (record { year = y; month = d.month; day = d.day })

-- The last year whose anniversary isn't after today: this year, or the year before.
abbrev pub year_reached : Date → Date → ℕ
year_reached d today = cond (before today (anniversary_in d today.year)) (today.year - 1) today.year

-- ---- ages, from a reading's date to today's, signed: in days, and in completed years
abbrev pub age_in_days : Date → Date → ℤ
age_in_days reading today = sub_ℕ (day_number today) (day_number reading)

abbrev pub age_in_years : Date → Date → ℤ
age_in_years reading today = sub_ℕ (year_reached reading today) reading.year

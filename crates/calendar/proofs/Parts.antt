-- The calendar's tables, and the days of whole years without a sum. Assumes nothing.
use mathlib.Core.Path.{◌≡◌, refl, ◌∙◌, ap}
use mathlib.Core.Bool.{Bool, true, false, cond, not, ◌&&◌, ◌||◌}
use mathlib.Core.List.{List, [], ◌∷◌}
use Prim.Native.Nat.{ℕ, zero, suc, ◌+◌, ◌-◌, ◌*◌, ◌/◌, ◌%◌, ◌≤◌, ◌<◌}
use native.Mathlib.Omega.{arith}
use borrow.Author.Tests.{eqb-true, eqb-false}
use lib.Dec.{eqb, ltb, eqb-suc-suc, eqb-suc-zero}
use lib.ListN.{get_or, take}
use Rattle.model.specs.Required.{total}
use Rattle.model.specs.Calendar.{Date, leap, months, month_days, first_year, last_year, exists, years_days, day_number}
use Rattle.laws.proofs.CalendarLaws.{real, small}

abbrev pub days_of : List ℕ
days_of = 0 ∷ 31 ∷ 28 ∷ 31 ∷ 30 ∷ 31 ∷ 30 ∷ 31 ∷ 31 ∷ 30 ∷ 31 ∷ 30 ∷ 31 ∷ []

abbrev pub days_before : List ℕ
days_before = 0 ∷ 0 ∷ 31 ∷ 59 ∷ 90 ∷ 120 ∷ 151 ∷ 181 ∷ 212 ∷ 243 ∷ 273 ∷ 304 ∷ 334 ∷ []

-- A table of a common year, and one day more from 29 February on.
abbrev in_table : List ℕ → ℕ → Bool → ℕ
in_table table m longer = cond longer 1 0 + get_or table m 0

abbrev months_if : Bool → List ℕ
months_if b = 31 ∷ cond b 29 28 ∷ 31 ∷ 30 ∷ 31 ∷ 30 ∷ 31 ∷ 31 ∷ 30 ∷ 31 ∷ 30 ∷ 31 ∷ []

-- A month has the days of the table, February one more in a leap year.
days_if : (m : ℕ) (b : Bool) → get_or (0 ∷ months_if b) m 0 ≡ cond (eqb m 2 && b) 29 (get_or days_of m 0)
days_if zero b = refl
days_if (suc zero) b = refl
days_if (suc (suc zero)) true = refl
days_if (suc (suc zero)) false = refl
days_if (suc (suc (suc m))) b = rw (eqb-suc-suc, eqb-suc-suc, eqb-suc-zero)

pub month_table : (y m : ℕ) → month_days y m ≡ cond (eqb m 2 && leap y) 29 (get_or days_of m 0)
month_table y m = days_if m (leap y)

pub common_month : (y m : ℕ) → (eqb m 2 && leap y) ≡ false → month_days y m ≡ get_or days_of m 0
common_month y m e = month_table y m ∙ ap (λ b. cond b 29 (get_or days_of m 0)) e

-- ---- whole years
-- Each fourth of the years so far has 29 February, but 1900, and 2100 once it is among them.
abbrev Closed : ℕ → Type 0
Closed n = years_days n + n / 201 ≡ n * 365 + (n - 1) / 4

year_long : (b : Bool) → total (months_if b) ≡ cond b 366 365
year_long true = refl
year_long false = refl

year_more : (n : ℕ) → suc n < 300 → Closed n → (a b c : Bool) →
    eqb ((first_year + n) % 4) 0 ≡ a → eqb ((first_year + n) % 100) 0 ≡ b → eqb ((first_year + n) % 400) 0 ≡ c → total (months (first_year + n)) ≡ cond (a && (not b || c)) 366 365 → Closed (suc n)
year_more n h sofar true false c p q r year = omega (arith, eqb-true _ _ p, eqb-false _ _ q)
year_more n h sofar true true true p q r year = omega (arith, eqb-true _ _ p, eqb-true _ _ q, eqb-true _ _ r)
year_more n h sofar true true false p q r year = omega (arith, eqb-true _ _ q, eqb-false _ _ r)
year_more n h sofar false b c p q r year = omega (arith, eqb-false _ _ p)

pub years_closed : (n : ℕ) → n < 300 → Closed n
years_closed zero h = refl
years_closed (suc n) h = year_more n h (years_closed n (omega arith)) _ _ _ refl refl refl (year_long (leap (first_year + n)))

before_if : (m : ℕ) (b : Bool) → m ≤ 12 → total (take (m - 1) (months_if b)) ≡ in_table days_before m (ltb 2 m && b)
before_if zero b h = refl
before_if (suc zero) b h = refl
before_if (suc (suc zero)) b h = refl
before_if (suc (suc (suc zero))) true h = refl
before_if (suc (suc (suc zero))) false h = refl
before_if (suc (suc (suc (suc zero)))) true h = refl
before_if (suc (suc (suc (suc zero)))) false h = refl
before_if (suc (suc (suc (suc (suc zero))))) true h = refl
before_if (suc (suc (suc (suc (suc zero))))) false h = refl
before_if (suc (suc (suc (suc (suc (suc zero)))))) true h = refl
before_if (suc (suc (suc (suc (suc (suc zero)))))) false h = refl
before_if (suc (suc (suc (suc (suc (suc (suc zero))))))) true h = refl
before_if (suc (suc (suc (suc (suc (suc (suc zero))))))) false h = refl
before_if (suc (suc (suc (suc (suc (suc (suc (suc zero)))))))) true h = refl
before_if (suc (suc (suc (suc (suc (suc (suc (suc zero)))))))) false h = refl
before_if (suc (suc (suc (suc (suc (suc (suc (suc (suc zero))))))))) true h = refl
before_if (suc (suc (suc (suc (suc (suc (suc (suc (suc zero))))))))) false h = refl
before_if (suc (suc (suc (suc (suc (suc (suc (suc (suc (suc zero)))))))))) true h = refl
before_if (suc (suc (suc (suc (suc (suc (suc (suc (suc (suc zero)))))))))) false h = refl
before_if (suc (suc (suc (suc (suc (suc (suc (suc (suc (suc (suc zero))))))))))) true h = refl
before_if (suc (suc (suc (suc (suc (suc (suc (suc (suc (suc (suc zero))))))))))) false h = refl
before_if (suc (suc (suc (suc (suc (suc (suc (suc (suc (suc (suc (suc zero)))))))))))) true h = refl
before_if (suc (suc (suc (suc (suc (suc (suc (suc (suc (suc (suc (suc zero)))))))))))) false h = refl
before_if (suc (suc (suc (suc (suc (suc (suc (suc (suc (suc (suc (suc (suc m))))))))))))) b h = absurd (omega arith)

pub before_table : (y m : ℕ) → m ≤ 12 → total (take (m - 1) (months y)) ≡ in_table days_before m (ltb 2 m && leap y)
before_table y m h = before_if m (leap y) h

-- ---- the number of a day, by table and closed form
pub record Counted (d : Date) : Type 0 where
  pub year_low : first_year ≤ d.year
  pub year_high : d.year ≤ last_year
  pub month_high : d.month ≤ 12
  pub day_low : 1 ≤ d.day
  pub number : day_number d ≡ years_days (d.year - first_year) + in_table days_before d.month (ltb 2 d.month && leap d.year) + (d.day - 1)
  pub few : years_days (d.year - first_year) ≤ 110000
  pub little : in_table days_before d.month (ltb 2 d.month && leap d.year) + (d.day - 1) ≤ 400

pub counted : (d : Date) → exists d ≡ true → Counted d
counted d h =
    let r = real d h in
    let s = small d r in
    let table = before_table d.year d.month s.month_high in
    let n = d.year - first_year in
    record {
      year_low = r.from_first;
      year_high = r.to_last;
      month_high = s.month_high;
      day_low = r.some_day;
      number = ap (λ x. years_days n + x + (d.day - 1)) table;
      few = omega (arith, years_closed n (omega (arith, r.to_last)), r.to_last);
      little = omega (arith, table, s.before_month, s.day_high);
    }

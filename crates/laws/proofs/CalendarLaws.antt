-- The calendar: days are counted one by one, so that each number from 0 to 109,572 is one date's and only one's; completed years are the greatest
-- number whose anniversary isn't after today; and a reading of tomorrow has age -1 in both units.
use Rattle.std.specs.Prelude.{◌≡◌, refl, Bool, true, false, cond, not, ◌&&◌, ◌||◌, List, [], ◌∷◌, ℕ, zero, suc, ◌+◌, ◌-◌, ◌≤◌, ◌<◌, eqb, ltb, leb, length, get_or, take, pos, negsuc}
use Rattle.std.proofs.Common.{sym, ◌∙◌, ap, ap₂, arith, leb-true, leb-false, le-leb, ltb-true, ltb-false, lt-ltb, le-ltb, eqb-true, eq-eqb, ne_eqb}
use Rattle.std.proofs.Math.Bool.{and-false}
use Rattle.std.proofs.lemmas.Bool.{lt-leb, and_parts}
use Rattle.std.proofs.Math.ListN.{get_or-eq_default}
use Rattle.std.proofs.Math.IntN.{sub_ℕ}
use Rattle.std.specs.Int.Signed.{le_z}
use Rattle.model.specs.Required.{total}
use Rattle.model.specs.Calendar.{Date, leap, months, month_days, first_year, last_year, exists, years_days, day_number, before, leap_day, anniversary_in, year_reached, age_in_days, age_in_years}
use Rattle.laws.specs.LastDay.{last_day}

-- ---- a date that exists
pub record Real (d : Date) : Type 0 where
  pub from_first : first_year ≤ d.year
  pub to_last : d.year ≤ last_year
  pub some_day : 1 ≤ d.day
  pub in_month : d.day ≤ month_days d.year d.month

either : (a b : Bool) → (a || b) ≡ true → {X : Type 0} → (a ≡ true → X) → (b ≡ true → X) → X
either true b h f g = f refl
either false b h f g = g h

three : (m n : ℕ) {X : Type 0} → (m < n → X) → (n < m → X) → (m ≡ n → X) → X
three m n {X} f g e = by (ltb m n) (ltb n m) refl refl
  where
    by : (s t : Bool) → ltb m n ≡ s → ltb n m ≡ t → X
    by true t p q = f (ltb-true m n p)
    by false true p q = g (ltb-true n m q)
    by false false p q = e (omega (arith, ltb-false m n p, ltb-false n m q))

-- A month has 28 to 31 days, and what has a day is one of twelve months.
record Month (y m : ℕ) : Type 0 where
  low : 1 ≤ m
  high : m ≤ 12
  least : 28 ≤ month_days y m
  most : month_days y m ≤ 31

short_month : (b : Bool) → (28 ≤ cond b 29 28) × (cond b 29 28 ≤ 29)
short_month true = (omega arith, omega arith)
short_month false = (omega arith, omega arith)

month : (y m : ℕ) → 1 ≤ m → m ≤ 12 → Month y m
month y zero h k = absurd (omega arith)
month y (suc zero) h k = record { low = h; high = k; least = omega arith; most = omega arith }
month y (suc (suc zero)) h k = let f = short_month (leap y) in record { low = h; high = k; least = f.0; most = omega (arith, f.1) }
month y (suc (suc (suc zero))) h k = record { low = h; high = k; least = omega arith; most = omega arith }
month y (suc (suc (suc (suc zero)))) h k = record { low = h; high = k; least = omega arith; most = omega arith }
month y (suc (suc (suc (suc (suc zero))))) h k = record { low = h; high = k; least = omega arith; most = omega arith }
month y (suc (suc (suc (suc (suc (suc zero)))))) h k = record { low = h; high = k; least = omega arith; most = omega arith }
month y (suc (suc (suc (suc (suc (suc (suc zero))))))) h k = record { low = h; high = k; least = omega arith; most = omega arith }
month y (suc (suc (suc (suc (suc (suc (suc (suc zero)))))))) h k = record { low = h; high = k; least = omega arith; most = omega arith }
month y (suc (suc (suc (suc (suc (suc (suc (suc (suc zero))))))))) h k = record { low = h; high = k; least = omega arith; most = omega arith }
month y (suc (suc (suc (suc (suc (suc (suc (suc (suc (suc zero)))))))))) h k = record { low = h; high = k; least = omega arith; most = omega arith }
month y (suc (suc (suc (suc (suc (suc (suc (suc (suc (suc (suc zero))))))))))) h k = record { low = h; high = k; least = omega arith; most = omega arith }
month y (suc (suc (suc (suc (suc (suc (suc (suc (suc (suc (suc (suc zero)))))))))))) h k = record { low = h; high = k; least = omega arith; most = omega arith }
month y (suc (suc (suc (suc (suc (suc (suc (suc (suc (suc (suc (suc (suc m))))))))))))) h k = absurd (omega arith)

month_of_days : (y m : ℕ) → 0 < month_days y m → Month y m
month_of_days y zero h = absurd (omega arith)
month_of_days y (suc m) h = by (ltb m 12) refl
  where
    by : (b : Bool) → ltb m 12 ≡ b → Month y (suc m)
    by true e = month y (suc m) (omega arith) (omega (arith, ltb-true m 12 e))
    by false e = absurd (omega (arith, get_or-eq_default (0 ∷ months y) 0 {n = suc m} (omega (arith, ltb-false m 12 e))))

pub real : (d : Date) → exists d ≡ true → Real d
real d h =
    let a = and_parts (leb first_year d.year && leb d.year last_year && leb 1 d.day) _ h in
    let b = and_parts (leb first_year d.year && leb d.year last_year) _ a.0 in
    let c = and_parts (leb first_year d.year) _ b.0 in
    record { from_first = leb-true _ _ c.0; to_last = leb-true _ _ c.1; some_day = leb-true _ _ b.1; in_month = leb-true _ _ a.1 }

pub real_exists : (d : Date) → Real d → exists d ≡ true
real_exists d r = rw (le-leb _ _ r.from_first, le-leb _ _ r.to_last, le-leb _ _ r.some_day, le-leb _ _ r.in_month)

abbrev pub next_day : Date → Date
next_day d =
    cond (ltb d.day (month_days d.year d.month)) (record { year = d.year; month = d.month; day = suc d.day })
    (cond (ltb d.month 12) (record { year = d.year; month = suc d.month; day = 1 }) (record { year = suc d.year; month = 1; day = 1 }))

-- What holds of the three dates that may follow holds of the next day.
module _ (d : Date) (P : Date → Type 0)
    (in_month : d.day < month_days d.year d.month → P (record { year = d.year; month = d.month; day = suc d.day }))
    (in_year_lem : month_days d.year d.month ≤ d.day → d.month < 12 → P (record { year = d.year; month = suc d.month; day = 1 }))
    (in_next : month_days d.year d.month ≤ d.day → 12 ≤ d.month → P (record { year = suc d.year; month = 1; day = 1 })) where
  month_ends : (b : Bool) → ltb d.month 12 ≡ b → month_days d.year d.month ≤ d.day →
      P (cond b (record { year = d.year; month = suc d.month; day = 1 }) (record { year = suc d.year; month = 1; day = 1 }))
  month_ends true e h = in_year_lem h (ltb-true _ _ e)
  month_ends false e h = in_next h (ltb-false _ _ e)

  day_ends : (b : Bool) → ltb d.day (month_days d.year d.month) ≡ b →
      P (cond b (record { year = d.year; month = d.month; day = suc d.day })
      (cond (ltb d.month 12) (record { year = d.year; month = suc d.month; day = 1 }) (record { year = suc d.year; month = 1; day = 1 })))
  day_ends true e = in_month (ltb-true _ _ e)
  day_ends false e = month_ends (ltb d.month 12) refl (ltb-false _ _ e)

  pub next_day_lem : P (next_day d)
  next_day_lem = day_ends (ltb d.day (month_days d.year d.month)) refl

total_more : (k : ℕ) (l : List ℕ) → k < length l → total (take (suc k) l) ≡ total (take k l) + get_or l k 0
total_more k [] h = absurd (omega arith)
total_more zero (n ∷ l) h = omega arith
total_more (suc k) (n ∷ l) h = omega (arith, total_more k l (omega arith))

-- The days before the month after m, and before the year after y.
pub month_on : (y m : ℕ) → 1 ≤ m → m ≤ 12 → total (take m (months y)) ≡ total (take (m - 1) (months y)) + month_days y m
month_on y zero h k = absurd (omega arith)
month_on y (suc m) h k = total_more m (months y) (omega arith) ∙ ap (λ n. total (take n (months y)) + get_or (months y) m 0) (let e : m ≡ suc m - 1 = omega arith in e)

year_on : (y : ℕ) → first_year ≤ y → years_days (suc y - first_year) ≡ years_days (y - first_year) + total (months y)
year_on y h =
    ap years_days (let e : suc y - first_year ≡ suc (y - first_year) = omega arith in e)
    ∙ ap (λ n. years_days (y - first_year) + total (months n)) (let e : first_year + (y - first_year) ≡ y = omega arith in e)

pub total_few : (k : ℕ) (l : List ℕ) → total (take k l) ≤ total l
total_few zero l = omega arith
total_few (suc k) [] = omega arith
total_few (suc k) (n ∷ l) = omega (arith, total_few k l)

-- Month and day, and the days of the year before the month, are small numbers.
pub record Small (d : Date) : Type 0 where
  pub month_low : 1 ≤ d.month
  pub month_high : d.month ≤ 12
  pub day_high : d.day ≤ 31
  pub before_month : total (take (d.month - 1) (months d.year)) ≤ 366

module _ (d : Date) (r : Real d) where
  its_month : Month d.year d.month
  its_month = month_of_days d.year d.month (omega (arith, r.some_day, r.in_month))

  pub small : Small d
  small =
      let m = its_month in
      let short = short_month (leap d.year) in
      record {
        month_low = m.low;
        month_high = m.high;
        day_high = omega (arith, r.in_month, m.most);
        before_month = omega (arith, total_few (d.month - 1) (months d.year), short.1);
      }

  before_next_month : total (take d.month (months d.year)) ≡ total (take (d.month - 1) (months d.year)) + month_days d.year d.month
  before_next_month = month_on d.year d.month its_month.low its_month.high

  pub one_day_on : day_number (next_day d) ≡ suc (day_number d)
  one_day_on =
      next_day_lem d (λ e. day_number e ≡ suc (day_number d))
      (λ h. omega (arith, r.some_day))
      (λ h k.
      let q : total (take (suc d.month - 1) (months d.year)) ≡ total (take d.month (months d.year)) = ap (λ n. total (take n (months d.year))) (let z : suc d.month - 1 ≡ d.month = omega arith in z) in
      omega (arith, q, before_next_month, r.some_day, r.in_month, h))
      (λ h k.
      let full : total (take d.month (months d.year)) ≡ total (months d.year) = ap (λ n. total (take n (months d.year))) (let z : d.month ≡ 12 = omega (arith, its_month.high) in z) in
      omega (arith, year_on d.year r.from_first, full, before_next_month, r.some_day, r.in_month, h))

  -- After every date but the last there is one.
  not_last : day_number d < last_day → month_days d.year d.month ≤ d.day → 12 ≤ d.month → suc d.year ≤ last_year
  not_last few h k = by (ltb d.year last_year) refl
    where
      by : (b : Bool) → ltb d.year last_year ≡ b → suc d.year ≤ last_year
      by true e = ltb-true _ _ e
      by false e =
          let y : d.year ≡ last_year = omega (arith, ltb-false d.year last_year e, r.to_last) in
          let m : d.month ≡ 12 = omega (arith, its_month.high) in
          let full : month_days d.year d.month ≡ 31 = ap₂ month_days y m in
          let number : day_number d ≡ last_day - 30 + (d.day - 1) = ap₂ (λ a b. years_days (a - first_year) + total (take (b - 1) (months a)) + (d.day - 1)) y m in
          absurd (omega (arith, full, number))

  pub next_real : day_number d < last_day → Real (next_day d)
  next_real few =
      next_day_lem d Real
      (λ h. record { from_first = r.from_first; to_last = r.to_last; some_day = omega arith; in_month = omega arith })
      (λ h k.
      let m : Month d.year (suc d.month) = month d.year (suc d.month) (omega arith) (omega arith) in
      record { from_first = r.from_first; to_last = r.to_last; some_day = omega arith; in_month = omega (arith, m.least) })
      (λ h k. record { from_first = omega (arith, r.from_first); to_last = not_last few h k; some_day = omega arith; in_month = omega arith })

-- Every number from 0 to 109,572 is some date's ..
abbrev pub date_at : ℕ → Date
date_at zero = record { year = first_year; month = 1; day = 1 }
date_at (suc n) = next_day (date_at n)

pub date_of_lem : (n : ℕ) → n ≤ last_day → (exists (date_at n) ≡ true) × (day_number (date_at n) ≡ n)
date_of_lem zero h = (refl, refl)
date_of_lem (suc n) h =
    let sofar = date_of_lem n (omega arith) in
    let r : Real (date_at n) = real (date_at n) sofar.0 in
    (real_exists (next_day (date_at n)) (next_real (date_at n) r (omega (arith, sofar.1))), one_day_on (date_at n) r ∙ ap suc sofar.1)

-- .. and of one alone: a date that stands before another has the lesser number.
total_later : (j k : ℕ) (l : List ℕ) → j ≤ k → total (take j l) ≤ total (take k l)
total_later zero k l h = omega arith
total_later (suc j) zero l h = absurd (omega arith)
total_later (suc j) (suc k) [] h = omega arith
total_later (suc j) (suc k) (n ∷ l) h = omega (arith, total_later j k l (omega arith))

years_more : (n k : ℕ) → years_days n ≤ years_days (n + k)
years_more n zero = let e : years_days (n + 0) ≡ years_days n = ap years_days (let z : n + 0 ≡ n = omega arith in z) in omega arith
years_more n (suc k) = let e : years_days (n + suc k) ≡ years_days (suc (n + k)) = ap years_days (let z : n + suc k ≡ suc (n + k) = omega arith in z) in omega (arith, years_more n k)

years_later : (n m : ℕ) → n ≤ m → years_days n ≤ years_days m
years_later n m h = let e : years_days (n + (m - n)) ≡ years_days m = ap years_days (let z : n + (m - n) ≡ m = omega arith in z) in omega (arith, years_more n (m - n))

module _ (a b : Date) where
  -- Why one date stands before another.
  data Sooner : Type 0 where
    by_year : a.year < b.year → Sooner
    by_month : a.year ≡ b.year → a.month < b.month → Sooner
    by_day : a.year ≡ b.year → a.month ≡ b.month → a.day < b.day → Sooner

  sooner : before a b ≡ true → Sooner
  sooner h =
      either (ltb a.year b.year) _ h (λ y. by_year (ltb-true _ _ y)) (λ h₁.
      let k = and_parts (eqb a.year b.year) _ h₁ in
      either (ltb a.month b.month) _ k.1 (λ m. by_month (eqb-true _ _ k.0) (ltb-true _ _ m)) (λ h₂.
      let l = and_parts (eqb a.month b.month) _ h₂ in by_day (eqb-true _ _ k.0) (eqb-true _ _ l.0) (ltb-true _ _ l.1)))

  pub year_before : a.year < b.year → before a b ≡ true
  year_before h = rw (lt-ltb _ _ h)

  pub year_after : b.year < a.year → before a b ≡ false
  year_after h = rw (le-ltb a.year b.year (omega arith), ne_eqb a.year b.year (λ e. omega arith))

  month_before : a.year ≡ b.year → a.month < b.month → before a b ≡ true
  month_before y h = rw (le-ltb a.year b.year (omega arith), eq-eqb _ _ y, lt-ltb _ _ h)

  day_before : a.year ≡ b.year → a.month ≡ b.month → a.day < b.day → before a b ≡ true
  day_before y m h = rw (le-ltb a.year b.year (omega arith), eq-eqb _ _ y, le-ltb a.month b.month (omega arith), eq-eqb _ _ m, lt-ltb _ _ h)

-- Two dates stand in order, or are the same.
in_order_lem : (a b : Date) {X : Type 0} → (before a b ≡ true → X) → (before b a ≡ true → X) → (a ≡ b → X) → X
in_order_lem a b f g s =
    three a.year b.year (λ h. f (year_before a b h)) (λ h. g (year_before b a h)) (λ y.
    three a.month b.month (λ h. f (month_before a b y h)) (λ h. g (month_before b a (sym y) h)) (λ m.
    three a.day b.day (λ h. f (day_before a b y m h)) (λ h. g (day_before b a (sym y) (sym m) h)) (λ d.
    s (λ i. record { year = y i; month = m i; day = d i }))))

module _ (a b : Date) (ra : Real a) (rb : Real b) where
  order_days : Sooner a b → day_number a < day_number b
  order_days (by_year y) =
      omega (arith, year_on a.year ra.from_first, years_later (suc a.year - first_year) (b.year - first_year) (omega arith), before_next_month a ra, total_few a.month (months a.year), ra.some_day, ra.in_month)
  order_days (by_month y m) =
      let e : day_number b ≡ years_days (a.year - first_year) + total (take (b.month - 1) (months a.year)) + (b.day - 1) = ap (λ n. years_days (n - first_year) + total (take (b.month - 1) (months n)) + (b.day - 1)) (sym y) in
      omega (arith, e, before_next_month a ra, total_later a.month (b.month - 1) (months a.year) (omega arith), ra.some_day, ra.in_month)
  order_days (by_day y m d) =
      let e : day_number b ≡ years_days (a.year - first_year) + total (take (a.month - 1) (months a.year)) + (b.day - 1) = ap₂ (λ n k. years_days (n - first_year) + total (take (k - 1) (months n)) + (b.day - 1)) (sym y) (sym m) in
      omega (arith, e, ra.some_day)

  pub days_in_order : before a b ≡ true → day_number a < day_number b
  days_in_order h = order_days (sooner a b h)

pub one_date : (a b : Date) → exists a ≡ true → exists b ≡ true → day_number a ≡ day_number b → a ≡ b
one_date a b ea eb same =
    in_order_lem a b
    (λ h. absurd (omega (arith, days_in_order a b (real a ea) (real b eb) h)))
    (λ h. absurd (omega (arith, days_in_order b a (real b eb) (real a ea) h)))
    (λ e. e)

-- ---- completed years
abbrev in_year : Date → ℕ → Bool → Date
in_year d y moved = cond moved (record { year = y; month = 3; day = 1 }) (record { year = y; month = d.month; day = d.day })

in_year_is : (d : Date) (y : ℕ) (moved : Bool) → (in_year d y moved).year ≡ y
in_year_is d y true = refl
in_year_is d y false = refl

-- The order of differences from one number is that of the numbers.
same_test : (a b c d : ℕ) → (a ≤ b → c ≤ d) → (b < a → d < c) → leb a b ≡ leb c d
same_test a b c d f g = by (leb a b) refl
  where
    by : (t : Bool) → leb a b ≡ t → t ≡ leb c d
    by true e = sym (le-leb c d (f (leb-true a b e)))
    by false e = sym (lt-leb c d (g (leb-false a b e)))

differences : (a b c : ℕ) → le_z (sub_ℕ a c) (sub_ℕ b c) ≡ leb a b
differences a b c = by (ltb a c) (ltb b c) refl refl
  where
    by : (s t : Bool) → ltb a c ≡ s → ltb b c ≡ t → le_z (cond s (negsuc (c - suc a)) (pos (a - c))) (cond t (negsuc (c - suc b)) (pos (b - c))) ≡ leb a b
    by true true e f = let x = ltb-true a c e in let y = ltb-true b c f in same_test (c - suc b) (c - suc a) a b (λ h. omega arith) (λ h. omega arith)
    by true false e f = let x = ltb-true a c e in let y = ltb-false b c f in sym (le-leb a b (omega arith))
    by false true e f = let x = ltb-false a c e in let y = ltb-true b c f in sym (lt-leb a b (omega arith))
    by false false e f = let x = ltb-false a c e in let y = ltb-false b c f in same_test (a - c) (b - c) a b (λ h. omega arith) (λ h. omega arith)

module _ (d today : Date) (some-year : 0 < today.year) where
  -- The anniversary in a year isn't after today exactly if the year is at most the one reached.
  years_reached : (y : ℕ) → not (before today (anniversary_in d y)) ≡ leb y (year_reached d today)
  years_reached y = by (before today (anniversary_in d today.year)) refl
    where
      falls : (anniversary_in d y).year ≡ y
      falls = in_year_is d y (leap_day d && not (leap y))

      by : (b : Bool) → before today (anniversary_in d today.year) ≡ b → not (before today (anniversary_in d y)) ≡ leb y (cond b (today.year - 1) today.year)
      by b e =
          three y today.year
          (λ h. ap not (year_after today (anniversary_in d y) (omega (arith, falls))) ∙ sym (earlier b h))
          (λ h. ap not (year_before today (anniversary_in d y) (omega (arith, falls))) ∙ sym (later b h))
          (λ h. ap (λ n. not (before today (anniversary_in d n))) h ∙ ap not e ∙ sym (this b h))
        where
          earlier : (t : Bool) → y < today.year → leb y (cond t (today.year - 1) today.year) ≡ true
          earlier true h = le-leb y (today.year - 1) (omega arith)
          earlier false h = le-leb y today.year (omega arith)

          later : (t : Bool) → today.year < y → leb y (cond t (today.year - 1) today.year) ≡ false
          later true h = lt-leb y (today.year - 1) (omega arith)
          later false h = lt-leb y today.year (omega arith)

          this : (t : Bool) → y ≡ today.year → leb y (cond t (today.year - 1) today.year) ≡ not t
          this true h = lt-leb y (today.year - 1) (omega arith)
          this false h = le-leb y today.year (omega arith)

  -- Of completed years: the anniversary in year y, the (y - year of d)th, isn't after today exactly if that number, of either sign, is at most the age.
  pub completed_years : (y : ℕ) → not (before today (anniversary_in d y)) ≡ le_z (sub_ℕ y d.year) (age_in_years d today)
  completed_years y = years_reached y ∙ sym (differences y (year_reached d today) d.year)

-- ---- a reading after today
-- The anniversary in a date's own year is the date.
own_year : (d : Date) → Real d → anniversary_in d d.year ≡ d
own_year d r = ap (in_year d d.year) (stays (leap_day d) (leap d.year) refl refl)
  where
    stays : (s l : Bool) → leap_day d ≡ s → leap d.year ≡ l → (s && not l) ≡ false
    stays false l e f = refl
    stays true true e f = refl
    stays true false e f =
        let m = and_parts (eqb d.month 2) _ e in
        let two : d.month ≡ 2 = eqb-true d.month 2 m.0 in
        let few : month_days d.year d.month ≡ cond (leap d.year) 29 28 = ap (month_days d.year) two in
        let short : ◌≡◌ {A = ℕ} (cond (leap d.year) 29 28) 28 = ap (λ b. cond b 29 28) f in
        absurd (omega (arith, r.in_month, eqb-true d.day 29 m.1, few, short))

module _ (d today : Date) (r : Real d) (t : Real today) (later : before today d ≡ true) where
  not_yet : le_z (pos 0) (sub_ℕ (day_number today) (day_number d)) ≡ false
  not_yet = rw (lt-ltb _ _ (days_in_order today d t r later))

  -- Its age is negative in both units.
  pub ahead : (le_z (pos 0) (age_in_days d today) ≡ false) × (le_z (pos 0) (age_in_years d today) ≡ false)
  ahead = (
    not_yet,
    ap (λ z. le_z z (age_in_years d today)) (sym (none_between d.year))
        ∙ sym (completed_years d today (omega (arith, t.from_first)) d.year)
        ∙ ap (λ e. not (before today e)) (own_year d r)
        ∙ ap not later,
  )
    where
      none_between : (n : ℕ) → sub_ℕ n n ≡ pos 0
      none_between n = rw (le-ltb n n (omega arith)) (ap pos (let z : n - n ≡ 0 = omega arith in z))

one_less : (n m : ℕ) → suc n ≡ m → sub_ℕ n m ≡ negsuc 0
one_less n m e = rw (lt-ltb n m (omega arith)) (ap negsuc (let z : m - suc n ≡ 0 = omega arith in z))

-- A reading of tomorrow has age -1 in both units.
pub tomorrow : (today : Date) → exists today ≡ true → exists (next_day today) ≡ true → (age_in_days (next_day today) today ≡ negsuc 0) × (age_in_years (next_day today) today ≡ negsuc 0)
tomorrow today e f = (
  one_less (day_number today) (day_number (next_day today)) (sym (one_day_on today t)),
  one_less (year_reached (next_day today) today) (next_day today).year (next_day_lem today (λ d. Real d → suc (year_reached d today) ≡ d.year) in_month in_year_lem in_next (real (next_day today) f)),
)
  where
    t : Real today
    t = real today e

    this_year : (d : Date) → Real d → d.year ≡ today.year → before today d ≡ true → suc (year_reached d today) ≡ d.year
    this_year d r y l =
        ap (λ b. suc (cond b (today.year - 1) today.year)) (ap (λ n. before today (anniversary_in d n)) (sym y) ∙ ap (before today) (own_year d r) ∙ l)
        ∙ omega (arith, t.from_first)

    in_month : today.day < month_days today.year today.month → Real (record { year = today.year; month = today.month; day = suc today.day }) → suc (year_reached (record { year = today.year; month = today.month; day = suc today.day }) today) ≡ today.year
    in_month h r = this_year _ r refl (day_before today _ refl refl (omega arith))

    in_year_lem : month_days today.year today.month ≤ today.day → today.month < 12 → Real (record { year = today.year; month = suc today.month; day = 1 }) → suc (year_reached (record { year = today.year; month = suc today.month; day = 1 }) today) ≡ today.year
    in_year_lem h k r = this_year _ r refl (month_before today _ refl (omega arith))

    in_next : month_days today.year today.month ≤ today.day → 12 ≤ today.month → Real (record { year = suc today.year; month = 1; day = 1 }) → suc (year_reached (record { year = suc today.year; month = 1; day = 1 }) today) ≡ suc today.year
    in_next h k r = rw (le-ltb today.year today.year (omega arith), le-ltb today.month 1 (omega arith), ne_eqb today.month 1 (λ z. omega arith), and-false)

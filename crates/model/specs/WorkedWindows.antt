-- Dates, ages and windows worked through, by computation. Requests 1 and 12: each sentence, and each wrong turn, with a row of its own.
use Rattle.std.specs.Prelude.{◌≡◌, refl, Bool, true, false, ◌&&◌, not, List, [], ◌∷◌, ◌++◌, ℕ, eqb, replicate, ℤ, pos, negsuc}
use Rattle.model.specs.Calendar.{Date, exists, unknown_date, day_number, age_in_days, age_in_years}
use Rattle.model.specs.Facts.{Presence, absent, present, unknown}
use Rattle.model.specs.Writing.{presence_field}
use Rattle.model.specs.Windows.{windows_of, becomes, apply_windows}
use Rattle.model.specs.Worked.{Expected, refuses, writes, is_expected}

abbrev pub on : ℕ → ℕ → ℕ → Date
on y m d = record { year = y; month = m; day = d }

-- ---- the calendar
abbrev same : ℤ → ℤ → Bool
same (pos a) (pos b) = eqb a b
same (pos a) (negsuc b) = false
same (negsuc a) (pos b) = false
same (negsuc a) (negsuc b) = eqb a b

abbrev ages : Date → Date → ℤ → ℤ → Bool
ages reading today days years = same (age_in_days reading today) days && same (age_in_years reading today) years

pub dates :
    (exists (on 1900 1 1) && exists (on 2199 12 31) && not (exists (on 1899 12 31)) && not (exists (on 2200 1 1))
    && exists (on 2000 2 29) && not (exists (on 1900 2 29)) && not (exists (on 2100 2 29)) && exists (on 2024 2 29) && not (exists (on 2026 2 29))
    && exists (on 2026 4 30) && not (exists (on 2026 4 31)) && not (exists (on 2026 1 32))
    && not (exists (on 2026 0 1)) && not (exists (on 2026 13 1)) && not (exists (on 2026 1 0))
    && unknown_date (on 0 0 0) && not (unknown_date (on 2000 0 0)) && not (unknown_date (on 0 1 0)) && not (unknown_date (on 0 0 1)))
    ≡ true
dates = refl

pub numbers :
    (eqb (day_number (on 1900 1 1)) 0 && eqb (day_number (on 1900 3 1)) 59 && eqb (day_number (on 1904 2 29)) 1519 && eqb (day_number (on 2000 2 29)) 36583
    && eqb (day_number (on 2026 11 15)) 46339 && eqb (day_number (on 2100 3 1)) 73108 && eqb (day_number (on 2199 12 31)) 109572)
    ≡ true
numbers = refl

pub aged :
    (ages (on 2000 2 29) (on 2001 2 28) (pos 365) (pos 0)
    && ages (on 2000 2 29) (on 2001 3 1) (pos 366) (pos 1)
    && ages (on 2000 2 29) (on 2004 2 28) (pos 1460) (pos 3)
    && ages (on 2000 2 29) (on 2004 2 29) (pos 1461) (pos 4)
    && ages (on 2026 11 15) (on 2026 11 15) (pos 0) (pos 0)
    && ages (on 2016 11 16) (on 2026 11 15) (pos 3651) (pos 9)
    && ages (on 2016 11 15) (on 2026 11 15) (pos 3652) (pos 10)
    && ages (on 2026 11 16) (on 2026 11 15) (negsuc 0) (negsuc 0)
    && ages (on 2027 1 1) (on 2026 12 31) (negsuc 0) (negsuc 0)
    && ages (on 2027 11 16) (on 2026 11 15) (negsuc 365) (negsuc 1)
    && ages (on 2024 2 29) (on 1900 2 28) (negsuc 45290) (negsuc 124)
    && ages (on 1900 1 1) (on 2199 12 31) (pos 109572) (pos 299))
    ≡ true
aged = refl

-- ---- the call
-- A table of zeros but for its bytes 1 and 255.
abbrev pub table : ℕ → ℕ → List ℕ
table a z = 0 ∷ a ∷ (replicate 253 0 ++ z ∷ [])

pub data Row : Type 0 where
  row : List ℕ → Date → Date → List ℕ → ℕ → Expected → Row

abbrev pub holds : Row → Bool
holds (row list reading today facts room e) = is_expected (apply_windows list reading today facts room) e

abbrev pub all_hold : List Row → Bool
all_hold [] = true
all_hold (r ∷ rs) = holds r && all_hold rs

-- Fact 6 for 90 days, fact 7 for ten years.
abbrev stages : List ℕ
stages = 0x80000006 ∷ 0x0000005A ∷ 0xC0000007 ∷ 0x00000009 ∷ []

-- Windows of fact 6: open for 90 days, on days 5 to 30, and for ten years ..
abbrev pub wide : List ℕ
wide = 0x80000006 ∷ 0x0000005A ∷ []

abbrev pub month : List ℕ
month = 0x80000006 ∷ 0x0005001E ∷ []

abbrev pub ten_years : List ℕ
ten_years = 0xC0000006 ∷ 0x00000009 ∷ []

-- .. and closed on days 10 to 20, 91 to 100, 14, and 365 to 730.
abbrev pub survey : List ℕ
survey = 0x00000006 ∷ 0x000A0014 ∷ []

abbrev pub afterwards : List ℕ
afterwards = 0x00000006 ∷ 0x005B0064 ∷ []

abbrev pub fortnight : List ℕ
fortnight = 0x00000006 ∷ 0x000E000E ∷ []

abbrev pub second_year : List ℕ
second_year = 0x00000006 ∷ 0x016D02DA ∷ []

abbrev pub today : Date
today = on 2026 11 15

abbrev no_date : Date
no_date = on 0 0 0

abbrev accepted : List Row
accepted =
    -- 90 days, 91 days, tomorrow, and an unknown date: facts 4, 5 and 1023 keep their field, Unknown ones too
    row stages (on 2026 8 17) today (table 0x25 0x02) 256 (writes (table 0x25 0x02))
    ∷ row stages (on 2026 8 16) today (table 0x25 0x02) 256 (writes (table 0x21 0x02))
    ∷ row stages (on 2026 11 16) today (table 0x25 0x02) 256 (writes (table 0x20 0x02))
    ∷ row stages no_date today (table 0x25 0x02) 256 (writes (table 0x2A 0x02))
    ∷ row stages (on 2026 8 17) no_date (table 0x25 0x02) 256 (writes (table 0x2A 0x02))
    -- ten years are the completed years 0 to 9
    ∷ row stages (on 2016 11 16) today (table 0 0) 256 (writes (table 0x01 0))
    ∷ row stages (on 2016 11 15) today (table 0 0) 256 (writes (table 0 0))
    -- a closed window over an Unknown field; a fact that is held by none; each window's age in its own unit
    ∷ row (0x00000005 ∷ 0x0000000A ∷ []) today today (table 0x25 0) 256 (writes (table 0x05 0))
    ∷ row (0x80000005 ∷ 0x0001000A ∷ []) today today (table 0x25 0) 256 (writes (table 0x05 0))
    ∷ row (0xC0000006 ∷ 0x00010001 ∷ 0x80000007 ∷ 0x02140214 ∷ []) (on 2025 6 1) today (table 0 0) 256 (writes (table 0x05 0))
    -- 109,572 days lie in no window
    ∷ row (0x800003FF ∷ 0x0000FFFF ∷ []) (on 1900 1 1) (on 2199 12 31) (table 0x25 0x02) 256 (writes (table 0x25 0))
    -- no window: the table as it stands
    ∷ row [] today today (table 0x25 0x02) 300 (writes (table 0x25 0x02))
    ∷ []

pub accepted_hold : all_hold accepted ≡ true
accepted_hold = refl

-- ---- closed before open: what fact 6 becomes by a list, in every order of it
abbrev makes : List ℕ → Date → Presence → Bool
makes list reading p = eqb (presence_field (becomes reading today (windows_of list) 6)) (presence_field p)

abbrev both_ways : List ℕ → List ℕ → Date → Presence → Bool
both_ways a b reading p = makes (a ++ b) reading p && makes (b ++ a) reading p

abbrev six_ways : List ℕ → List ℕ → List ℕ → Date → Presence → Bool
six_ways a b c reading p =
    makes (a ++ b ++ c) reading p && makes (a ++ c ++ b) reading p && makes (b ++ a ++ c) reading p
    && makes (b ++ c ++ a) reading p && makes (c ++ a ++ b) reading p && makes (c ++ b ++ a) reading p

pub overlapping :
    -- 14 days: a closed window that holds the age, one that doesn't, a third after two open ones, a second beside one that doesn't hold it
    (both_ways wide survey (on 2026 11 1) absent
    && both_ways wide afterwards (on 2026 11 1) present
    && six_ways wide month fortnight (on 2026 11 1) absent
    && six_ways wide afterwards fortnight (on 2026 11 1) absent
    -- 1 year and 532 days, each window in its own unit
    && both_ways ten_years second_year (on 2025 6 1) absent
    -- the ends of the closed window, 10 and 20 days, and the days beside them
    && both_ways wide survey (on 2026 11 5) absent
    && both_ways wide survey (on 2026 10 26) absent
    && both_ways wide survey (on 2026 11 6) present
    && both_ways wide survey (on 2026 10 25) present
    -- a closed window of another fact; closed windows alone; an unknown date
    && both_ways wide (0x00000007 ∷ 0x000A0014 ∷ []) (on 2026 11 1) present
    && both_ways survey afterwards (on 2026 8 16) absent
    && both_ways wide survey no_date unknown)
    ≡ true
overlapping = refl

abbrev turned_back : List Row
turned_back =
    -- 12: beside an unknown date, with no window, before 13, for either date
    row [] no_date (on 2026 2 29) (table 0 0) 256 (refuses 12)
    ∷ row [] (on 2000 0 0) no_date (table 0 0) 256 (refuses 12)
    ∷ row [] (on 2200 1 1) today (table 0 0) 256 (refuses 12)
    ∷ row (1 ∷ []) (on 2026 2 29) today [] 0 (refuses 12)
    -- 13: an odd number of words, 33 windows, a zero field, a first age above the last, a table that isn't 256 bytes; before 3, with unknown dates too
    ∷ row (0 ∷ []) no_date no_date (table 0 0) 256 (refuses 13)
    ∷ row (replicate 66 0) today today (table 0 0) 256 (refuses 13)
    ∷ row (0x40000400 ∷ 0 ∷ []) today today (table 0 0) 256 (refuses 13)
    ∷ row (0x20000000 ∷ 0 ∷ []) today today (table 0 0) 256 (refuses 13)
    ∷ row (0x80000000 ∷ 0x00010000 ∷ []) today today (table 0 0) 256 (refuses 13)
    ∷ row [] today today (0 ∷ table 0 0) 256 (refuses 13)
    ∷ row [] today today [] 256 (refuses 13)
    ∷ row (0 ∷ []) today today (table 0xC0 0) 256 (refuses 13)
    -- 3: at a named fact too, and before 11
    ∷ row stages today today (table 0x0C 0) 256 (refuses 3)
    ∷ row stages today today (table 0 0x03) 0 (refuses 3)
    -- 11
    ∷ row stages today today (table 0x25 0x02) 255 (refuses 11)
    ∷ []

pub turned_back_lem : all_hold turned_back ≡ true
turned_back_lem = refl

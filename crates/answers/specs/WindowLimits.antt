-- Rows of requests 1 and 12 through whole tables, apart from the others since they take long to compute.
use Rattle.std.specs.Prelude.{◌≡◌, refl, true, List, [], ◌∷◌, ◌++◌, replicate}
use Rattle.model.specs.Worked.{writes}
use Rattle.model.specs.WorkedWindows.{Row, row, on, table, all_hold, wide, survey, afterwards, ten_years, second_year, month, fortnight, today}

abbrev rows : List Row
rows =
    -- closed before open, in either order, among several, and in two units
    row (wide ++ survey) (on 2026 11 1) today (table 0 0) 256 (writes (table 0 0))
    ∷ row (survey ++ wide) (on 2026 11 1) today (table 0 0) 256 (writes (table 0 0))
    ∷ row (wide ++ afterwards) (on 2026 11 1) today (table 0 0) 256 (writes (table 0x04 0))
    ∷ row (ten_years ++ second_year) (on 2025 6 1) today (table 0 0) 256 (writes (table 0 0))
    ∷ row (wide ++ month ++ fortnight) (on 2026 11 1) today (table 0 0) 256 (writes (table 0 0))
    -- 299 years lie in one
    ∷ row (0xC00003FF ∷ 0x012B012B ∷ []) (on 1900 1 1) (on 2199 12 31) (table 0x25 0x02) 256 (writes (table 0x25 0x01))
    -- 32 windows are read
    ∷ row (replicate 64 0) today today (table 0 0) 256 (writes (table 0 0))
    ∷ []

pub limits : all_hold rows ≡ true
limits = refl

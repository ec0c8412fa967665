-- The number of 2199-12-31, the last day.
use Rattle.std.specs.Prelude.{ℕ}

-- ---- days are counted one by one
-- The number of 2199-12-31.
abbrev pub last_day : ℕ
last_day = 109572

-- What a date and an age of the code stand for.
use Rattle.std.specs.Prelude.{ℕ, ℤ, pos, negsuc, Option, Some, None}
use Rattle.model.specs.Calendar as model
use Rattle.calendar.specs.declared.Date.{Date}

abbrev pub date_of : Date → model.Date
date_of d = record { year = d.year; month = d.month; day = d.day }

-- The answer for an age: its number from 0 on, and none for every age below 0.
abbrev pub shown : ℤ → Option ℕ
shown (pos n) = Some n
shown (negsuc n) = None

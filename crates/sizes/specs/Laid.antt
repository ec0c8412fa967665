-- Sizes counted up to the limit of a record, and words laid at the front of an output that may be too short for them. Document 01, "How a request is turned back", 11.
use Rattle.std.specs.Prelude.{◌≡◌, List, ℕ, ◌+◌, ◌≤◌, min, length, take}
use Rattle.model.specs.Reading.{record_words}

-- A record has at most this many words; one more says "too many".
abbrev pub most_words : ℕ
most_words = record_words

abbrev pub too_many : ℕ
too_many = most_words + 1

-- A size, counted up to the limit.
abbrev pub capped : ℕ → ℕ
capped n = min n too_many

-- The words ws, n of them, were laid at the front of `out`, if they are not too many and there is room. Their size is r in any case.
pub record Laid (n : ℕ) (ws out : List ℕ) (r : ℕ) : Type 0 where
  pub size_is : r ≡ capped n
  pub front : r ≤ most_words → r ≤ length out → take r out ≡ ws

-- Lists of fields as the checks see them: obligations by how many are to come, entries by tests. Document 01, "How a request is turned back".
use Rattle.std.specs.Prelude.{Bool, cond, ◌&&◌, ◌||◌, Result, Ok, Err, List, [], ◌∷◌, ℕ, zero, suc, ◌+◌, ◌-◌, ◌/◌, ◌%◌, ◌^◌, eqb, ltb, leb}
use Rattle.model.specs.Facts.{fact_bits, fact_count}
use Rattle.model.specs.Writing.{mark_bits, entry_bits}
use Rattle.model.specs.Reading.{obligation_count}

-- One more field, by how many are to come: 8 past 63; after the last obligation it must be 0.
unfoldable pub seen_one : Result ℕ ℕ → ℕ → Result ℕ ℕ
seen_one (Err n) b = Err n
seen_one (Ok left) b = cond (eqb left 0) (cond (eqb b 0) (Ok left) (Err 8)) (cond (ltb b obligation_count) (Ok (left - 1)) (Err 8))

unfoldable pub seen_all : Result ℕ ℕ → List ℕ → Result ℕ ℕ
seen_all seen [] = seen
seen_all seen (b ∷ bs) = seen_all (seen_one seen b) bs

-- An entry: presence (2), below `presences`; zero (4); fact (10). A listed fact is an entry with presence 0, a consulted one has 0 to 3.
unfoldable pub entry_fits : ℕ → ℕ → Bool
entry_fits presences b = ltb (b / 2 ^ (4 + fact_bits)) presences && ltb (b % 2 ^ (4 + fact_bits)) fact_count

-- The two entries of a word, of which `left` are to come.
unfoldable pub pair_fits : ℕ → ℕ → ℕ → Bool
pair_fits presences left w =
    entry_fits presences (w / 2 ^ entry_bits) && cond (eqb left 1) (eqb (w % 2 ^ entry_bits) 0) (entry_fits presences (w % 2 ^ entry_bits))

-- A label or reason: present (1), then 15 bits; an absent one is 0.
unfoldable pub mark_fits : ℕ → Bool
mark_fits h = eqb h 0 || leb (2 ^ mark_bits) h

unfoldable pub marks_fit : ℕ → Bool
marks_fit w = mark_fits (w / 2 ^ (1 + mark_bits)) && mark_fits (w % 2 ^ (1 + mark_bits))

-- A label and a reason, one word.
unfoldable pub checked_marks : ℕ → List ℕ → Result ℕ ℕ
checked_marks at [] = Err 6
checked_marks at (w ∷ ws) = cond (marks_fit w) (Ok (at + 1)) (Err 8)

-- A list of entries, two a word, word by word.
unfoldable pub checked_pairs : ℕ → ℕ → List ℕ → ℕ → Result ℕ ℕ
checked_pairs presences at [] zero = Ok at
checked_pairs presences at [] (suc k) = Err 6
checked_pairs presences at (w ∷ ws) zero = Ok at
checked_pairs presences at (w ∷ ws) (suc k) = cond (pair_fits presences (suc k) w) (checked_pairs presences (at + 1) ws (k - 1)) (Err 8)

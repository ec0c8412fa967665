-- How far so many trees reach, by a count of open nodes: a node closes itself and opens its arms. No level is counted.
use Rattle.std.specs.Prelude.{◌≡◌, List, [], ◌∷◌, ℕ, zero, suc, ◌+◌, ◌%◌, ◌^◌, ◌≤◌, drop, get_or}
use Rattle.model.specs.Fields.{bits, words_for}
use Rattle.model.specs.Outcome.{outcome_bits}
use Rattle.model.specs.Condition.{cnil, ccons}
use Rattle.model.specs.Writing.{count_bits}
use Rattle.model.specs.Reading.{Parsed, refuse, got, kind_of, many, read_condition}
use Rattle.laws.proofs.FieldLaws.{Holds}
use Rattle.laws.specs.Size.{words_cs}

-- The arms that a first word opens, by its kind: a grant's condition is one.
abbrev pub arms_by : ℕ → List ℕ
arms_by count = 0 ∷ 0 ∷ 0 ∷ 1 ∷ count ∷ count ∷ 0 ∷ 0 ∷ 1 ∷ count ∷ count ∷ 2 ∷ []

unfoldable pub arms_of : ℕ → ℕ
arms_of w = get_or (arms_by (w % 2 ^ count_bits)) (kind_of w) 0

-- The words of the node itself after its first one, by its kind: those of a grant, of a 12 and of a 13.
abbrev pub own_by : ℕ → List ℕ → List ℕ
own_by n ws =
    0 ∷ 0 ∷ 0 ∷ 0 ∷ 0 ∷ 0 ∷ 0 ∷ 0
    ∷ suc (words_for 4 n)
    ∷ 0 ∷ 0 ∷ 0
    ∷ suc (words_for 4 n + words_for 2 (get_or ws 0 0 % 2 ^ count_bits))
    ∷ suc (suc (words_for 2 (get_or ws 1 0 % 2 ^ count_bits)))
    ∷ []

unfoldable pub own_of : ℕ → List ℕ → ℕ
own_of w ws = get_or (own_by (bits (4 + outcome_bits) 7 w) ws) (kind_of w) 0

-- The words that so many nodes reach over, after so many that are passed; or as many as there are.
unfoldable pub span : List ℕ → ℕ → ℕ → ℕ
span [] passed nodes = 0
span (w ∷ ws) (suc passed) nodes = suc (span ws passed nodes)
span (w ∷ ws) zero zero = 0
span (w ∷ ws) zero (suc nodes) = suc (span ws (own_of w ws) (arms_of w + nodes))

-- The position after what was read from `at`; of words that don't read nothing is said.
unfoldable pub Skipped : {A : Type 0} → (A → ℕ) → ℕ → Parsed A → ℕ → Type 0
Skipped size at (refuse n) r = Unit {0}
Skipped size at (got a ws) r = r ≡ at + size a

-- r is the position after `count` conditions from `at`, however deep, if they read. It is never before `at`.
pub record SkippedConditions (words : List ℕ) (at count r : ℕ) : Type 0 where
  pub onward : at ≤ r
  pub ends : (depth : ℕ) → Holds (λ cs rest. r ≡ at + words_cs cs) (many cnil ccons (read_condition depth) count (drop at words))

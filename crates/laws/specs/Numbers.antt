-- The numbers that calls refuse with, and which of them each step may tell.
use Rattle.std.specs.Prelude.{◌≡◌, ◌⊎◌, ℕ, ◌≤◌}
use Rattle.std.proofs.Math.Option.{Option, none, some}
use Rattle.model.specs.Reading.{Parsed, refuse, got, Fields, bad, ok}
use Rattle.model.specs.Calls.{Answer, refusal, wrote}

-- A number of the table. There is no 9: obligations may repeat.
abbrev pub Cause : ℕ → Type 0
Cause n = (1 ≤ n) × (n ≤ 11) × (n ≡ 9 → ⊥)

-- Those that reading gives: 1, 5, 6, 7, 8 and 10.
abbrev pub Reads : ℕ → Type 0
Reads n = (1 ≤ n) × (n ≤ 10) × (n ≡ 9 → ⊥) × (n ≡ 2 → ⊥) × (n ≡ 3 → ⊥) × (n ≡ 4 → ⊥)

-- What reads, or is refused with such a number.
abbrev pub Numbered : {A : Type 0} → Parsed A → Type 0
Numbered (refuse n) = Reads n
Numbered (got a ws) = Unit {0}

-- ---- lists of fields
abbrev pub Kept : {A : Type 0} → Fields A → Type 0
Kept (bad n) = Reads n
Kept (ok xs n) = Unit {0}

-- ---- tables
abbrev pub Faulty : Option ℕ → Type 0
Faulty none = Unit {0}
Faulty (some n) = Cause n

abbrev pub Told : (ℕ → Type 0) → Answer → Type 0
Told Besides (refusal n) = Cause n ⊎ Besides n
Told Besides (wrote ws) = Unit {0}

-- Every call may tell 16, a narrowing alone 17.
abbrev pub OtherNumber : ℕ → Type 0
OtherNumber n = n ≡ 16

abbrev pub OtherOrContradicted : ℕ → Type 0
OtherOrContradicted n = OtherNumber n ⊎ (n ≡ 17)

-- A request of a batch may tell 18, for nodes beyond what remains; of a sheet's number that a record can carry it never tells 16.
abbrev pub Unaffordable : ℕ → Type 0
Unaffordable n = n ≡ 18

-- Given a table, a call may tell 21 too.
abbrev pub OrTable : (ℕ → Type 0) → ℕ → Type 0
OrTable Besides n = Besides n ⊎ (n ≡ 21)

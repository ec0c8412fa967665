-- What is said of a required set, of two tables and of two runs. Request 13.
use Rattle.std.specs.Prelude.{◌≡◌, Ok, List, ℕ, ◌-◌, ◌/◌, ◌%◌, ◌<◌, get_or, take}
use Rattle.model.specs.Fields.{bits}
use Rattle.model.specs.Facts.{fact_count, table_of}
use Rattle.model.specs.Policy.{Policy}
use Rattle.laws.specs.Names.{Names}
use Rattle.stages.specs.Runs.{Run}

-- A fact's bit in a set of sixteen numbers: fact 0 is the top bit of the first.
abbrev pub bit_of : List ℕ → ℕ → ℕ
bit_of set f = bits (63 - f % 64) 1 (get_or set (f / 64) 0)

-- A fact's bit is 1 exactly when a Has in the tree carries the fact.
pub record Exactly {O : Type 0} (set : List ℕ) (t : Policy O) : Type 0 where
  pub carried : (f : ℕ) → f < fact_count → bit_of set f ≡ 1 → Names f t
  pub listed : (f : ℕ) → Names f t → (f < fact_count) × (bit_of set f ≡ 1)

-- Two tables give the same reading on each fact of the set. They may differ in every other fact and in length.
abbrev pub AlikeOn : List ℕ → List ℕ → List ℕ → Type 0
AlikeOn set one two = (f : ℕ) → f < fact_count → bit_of set f ≡ 1 → table_of one f ≡ table_of two f

-- Two runs returned the same, and left the same words at the front of their outputs; the same output, if it was the same before.
pub record SameRun (s s' : Run) : Type 0 where
  pub answers : s.answer ≡ s'.answer
  pub words : (n : ℕ) → s.answer ≡ Ok n → take n s.after ≡ take n s'.after
  pub outputs : s.before ≡ s'.before → s.after ≡ s'.after

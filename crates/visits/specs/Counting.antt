-- What the walk that counts answers: an allowance goes in, the visited count comes out, and it is over exactly where the count exceeds the allowance.
use Rattle.std.specs.Prelude.{◌≡◌, Bool, cond, List, ℕ, ◌+◌, leb, Option, Some, None}
use Rattle.std.proofs.Math.Option.{Option as Given}
use Rattle.model.specs.Facts.{Table}
use Rattle.model.specs.Levels.{OutcomeTable, outcomes_of}
use Rattle.model.specs.Visits.{visits}
use Rattle.model.specs.Reading.{Parsed}
use Rattle.model.specs.Products.{read_sheet}
use Rattle.laws.proofs.FieldLaws.{Holds}
use Rattle.visits.specs.declared.Visit.{Visit}

-- So many nodes, up to a node that has this value and ends at `end`.
unfoldable pub counted_by : ℕ → ℕ → Bool → ℕ → Option Visit
counted_by allowance nodes value end = cond (leb nodes allowance) (Some (record { holds = value; next = end; nodes = nodes })) None

-- The answer to what reads at `at`, after n nodes: its value, the position after its words, and its nodes besides. Of words that don't read nothing is said.
pub record Counts {A : Type 0} (size : A → ℕ) (value : A → Bool) (nodes : A → ℕ) (at allowance n : ℕ) (q : Parsed A) (r : Option Visit) : Type 0 where
  pub says : Holds (λ a rest. r ≡ counted_by allowance (n + nodes a) (value a) (at + size a)) q

-- The nodes of a sheet's direct evaluation, whatever the outcomes: they depend on facts alone.
abbrev pub visits_within : ℕ → ℕ → Option ℕ
visits_within allowance nodes = cond (leb nodes allowance) (Some nodes) None

pub record CountsSheet (T : Table) (words : List ℕ) (allowance : ℕ) (r : Option ℕ) : Type 0 where
  pub says : (g : Given OutcomeTable) → Holds (λ t rest. r ≡ visits_within allowance (visits (outcomes_of g) T t)) (read_sheet words)

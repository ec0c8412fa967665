-- What a decision of the code stands for, given the words and the buffer that it names. Document 01, "Policies" and "Folds".
use Rattle.std.specs.Prelude.{◌≡◌, Bool, true, false, cond, Option, None, Some, List, ◌++◌, ℕ, ◌≤◌, length, take}
use Rattle.model.specs.Facts.{Table}
use Rattle.model.specs.Outcome.{no_product}
use Rattle.model.specs.Decision.{Permit, permits, denies}
use Rattle.model.specs.Decision.{Decision as Decided}
use Rattle.model.specs.Policy.{Policy}
use Rattle.model.specs.Reading.{got, obligation_count}
use Rattle.model.specs.Products.{Outcome}
use Rattle.laws.specs.Lists.{Distinct, Below}
use Rattle.decision.specs.declared.Decision.{Decision}
use Rattle.decision.specs.Nodes.{node_at, clause_at, obligations_at}

-- The values that the constructors give.
abbrev pub denied_at : Option ℕ → Decision
denied_at at = record { permit = false; outcome = no_product; clause = at; obligations = None; united = 0 }

abbrev pub permitted_at : ℕ → Option ℕ → Option ℕ → ℕ → Decision
permitted_at o at from n = record { permit = true; outcome = o; clause = at; obligations = from; united = n }

-- The decision of a grant at `at` on the outcome o, by whether its condition is satisfied.
abbrev pub granted_at : Bool → ℕ → ℕ → Decision
granted_at true o at = permitted_at o (Some at) (Some at) 0
granted_at false o at = denied_at (Some at)

-- A permit's obligations: those of the node, and then those in the buffer.
unfoldable pub obligations_in : List ℕ → List ℕ → Decision → List ℕ
obligations_in words buf d = obligations_at words d.obligations ++ take d.united buf

-- Obligations that joins appended: none of them twice.
abbrev pub Appended : List ℕ → Type 0
Appended os = Distinct os × Below obligation_count os

unfoldable pub permit_of : List ℕ → Table → List ℕ → Decision → Permit Outcome
permit_of words T buf d =
    record { outcome = d.outcome; obligations = obligations_in words buf d; label = (clause_at words T d.clause).label; facts = (clause_at words T d.clause).facts }

unfoldable pub decision_of : List ℕ → Table → List ℕ → Decision → Decided Outcome
decision_of words T buf d = cond d.permit (permits (permit_of words T buf d)) (denies (clause_at words T d.clause))

-- A position of a node that reads, or past the end.
pub data Stands (words : List ℕ) (at : ℕ) : Type 0 where
  past : length words ≤ at → Stands words at
  reads : (t : Policy Outcome) (ws : List ℕ) → node_at words at ≡ got t ws → Stands words at

-- No node is named, or one at such a position.
abbrev pub Names : List ℕ → Option ℕ → Type 0
Names words None = Unit {0}
Names words (Some at) = Stands words at

-- What every decision of a walk over words that read keeps to. A deny has no bytes in the buffer.
pub record Sound (words buf : List ℕ) (d : Decision) : Type 0 where
  pub clause : Names words d.clause
  pub held : Names words d.obligations
  pub appended : Appended (take d.united buf)
  pub bare : d.permit ≡ false → d.united ≡ 0

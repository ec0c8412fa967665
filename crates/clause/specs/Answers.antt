-- What the functions answer of the node at a position, and of a decision that names it.
use Rattle.std.specs.Prelude.{◌≡◌, true, Option, List, ℕ, ◌≤◌, length, take, drop}
use Rattle.model.specs.Facts.{Table}
use Rattle.model.specs.Decision.{Decision as Decided}
use Rattle.model.specs.Writing.{entry_bits, most_listed}
use Rattle.model.specs.Reading.{read_list, listed}
use Rattle.model.specs.Products.{Outcome}
use Rattle.laws.proofs.FieldLaws.{Holds}
use Rattle.decision.specs.declared.Decision.{Decision}
use Rattle.decision.specs.Nodes.{clause_at}
use Rattle.decision.specs.Meaning.{obligations_in, decision_of, Names}
use Rattle.packing.specs.Written.{Written}
use Rattle.record.specs.declared.Clause.{Clause}
use Rattle.record.specs.Nodes.{denial_of, decision_words}
use Rattle.clause.specs.Clauses.{decision_size}

-- A list of `count` facts that reads at `at`, no longer than a node's may be, stands at the front.
pub record FactsListed (words : List ℕ) (at count : ℕ) (out : List ℕ) (r : ℕ) : Type 0 where
  pub within : r ≤ length out
  pub front : count ≤ most_listed → Holds (λ fs _. take r out ≡ fs) (read_list listed entry_bits count (drop at words))

-- The facts of the clause of the node that is named stand at the front.
pub record ClauseFacts (words : List ℕ) (T : Table) (node : Option ℕ) (out : List ℕ) (r : ℕ) : Type 0 where
  pub within : r ≤ length out
  pub front : Names words node → take r out ≡ (clause_at words T node).facts
  pub number : Names words node → r ≡ length (clause_at words T node).facts

-- The clause of the node that is named, but for its facts.
pub record ClauseIs (words : List ℕ) (node : Option ℕ) (r : Clause) : Type 0 where
  pub is : (T : Table) → Names words node → clause_at words T node ≡ denial_of r (clause_at words T node).facts

-- What is given to write a decision: os are its obligations, where it permits, and fs its clause's facts.
pub record Gathered (words : List ℕ) (T : Table) (buf : List ℕ) (d : Decision) (os fs : List ℕ) : Type 0 where
  pub clause : Names words d.clause
  pub obligations : d.permit ≡ true → os ≡ obligations_in words buf d
  pub facts : fs ≡ (clause_at words T d.clause).facts

-- The words of the decision that d stands for.
pub record DecisionWritten (words : List ℕ) (d : Decision) (os fs before after : List ℕ) (r : ℕ) : Type 0 where
  pub number : r ≡ decision_size d.permit (length os) (length fs)
  pub written : (T : Table) (buf : List ℕ) (D : Decided Outcome) → decision_of words T buf d ≡ D → Gathered words T buf d os fs → Written (decision_words D) before after r

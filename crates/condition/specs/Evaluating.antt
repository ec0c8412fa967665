-- What the evaluation of conditions answers, and what it leaves in the list that it is lent.
use Rattle.std.specs.Prelude.{◌≡◌, Bool, List, ℕ, ◌+◌, drop}
use Rattle.model.specs.Facts.{Table}
use Rattle.model.specs.Condition.{has, eval_condition}
use Rattle.model.specs.Consulted.{Consulted, read_c}
use Rattle.model.specs.Reading.{read_condition}
use Rattle.laws.proofs.FieldLaws.{Holds}
use Rattle.laws.specs.Size.{words_c}
use Rattle.laws.specs.Truth.{is_satisfied}
use Rattle.condition.specs.declared.ConditionEval.{ConditionEval}
use Rattle.consulted.specs.Listing.{Lent, Consults}

abbrev pub answer_of : Bool → ℕ → ConditionEval
answer_of value next = record { satisfied = value; next = next }

-- The answer to what has this value, takes the words up to `end` and consults as `read` does.
pub record Evaluated (value : Bool) (end : ℕ) (read : Consulted → Consulted) (s : Lent) (r : ConditionEval) (t : Lent) : Type 0 where
  pub satisfied_is : r.satisfied ≡ value
  pub next_is : r.next ≡ end
  pub log : Consults read s t

-- The answer to a condition at `at`, of at most `depth` levels. Of words that don't read nothing is said.
pub record EvaluatesC (T : Table) (words : List ℕ) (at depth : ℕ) (s : Lent) (r : ConditionEval) (t : Lent) : Type 0 where
  pub says : Holds (λ c rest. Evaluated (is_satisfied (eval_condition T c)) (at + words_c c) (read_c T c) s r t) (read_condition depth (drop at words))

-- The same of a Has, whose value is v.
pub record EvaluatesHas (T : Table) (f : ℕ) (s : Lent) (v : Bool) (t : Lent) : Type 0 where
  pub satisfied_is : v ≡ is_satisfied (eval_condition T (has f))
  pub log : Consults (read_c T (has f)) s t

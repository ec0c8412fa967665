-- What naming the decisive facts of a condition answers, and what stands in the lent slice afterwards. Document 01, "Conditions".
use Rattle.std.specs.Prelude.{◌≡◌, Bool, true, false, List, ℕ, ◌+◌, ◌≤◌, length, take, set}
use Rattle.model.specs.Facts.{Table, fact_count}
use Rattle.model.specs.Condition.{Condition, Conditions, ConditionEval, satisfied, unsatisfied, both, either, eval_condition, eval_condition_all, eval_condition_any}
use Rattle.model.specs.Reading.{Parsed}
use Rattle.laws.proofs.FieldLaws.{Holds}
use Rattle.laws.specs.Lists.{Below}
use Rattle.laws.specs.Size.{words_c, words_cs}
use Rattle.facts.specs.Answers.{is_present}
use Rattle.decisive.specs.declared.Named.{Named}

-- Satisfied or not, with the facts named.
abbrev pub eval_of : Bool → List ℕ → ConditionEval
eval_of true fs = satisfied fs
eval_of false fs = unsatisfied fs

-- The value is the answer's, with the facts that stand first in the slice, and what was read ends where the answer says.
pub record Tells (value : ConditionEval) (end : ℕ) (out : List ℕ) (r : Named) : Type 0 where
  pub value_is : value ≡ eval_of r.satisfied (take r.count out)
  pub next_is : r.next ≡ end

-- `names`: so it is of what is read from `at`; of words that don't read nothing is said. Whatever they hold, the facts stand within the slice, they are
-- no more than the words passed, and each is a fact.
pub record Decides {A : Type 0} (value : A → ConditionEval) (size : A → ℕ) (at : ℕ) (p : Parsed A) (out : List ℕ) (r : Named) : Type 0 where
  pub names : Holds (λ a _. Tells (value a) (at + size a) out r) p
  pub within : r.count ≤ length out
  pub few : r.count + at ≤ r.next
  pub below : Below fact_count (take r.count out)

abbrev pub Decisive : Table → ℕ → Parsed Condition → List ℕ → Named → Type 0
Decisive T at p out r = Decides (eval_condition T) words_c at p out r

-- A list stops at its first arm that has the value `stop`: All at a false one, Any at a true one.
abbrev pub join_arm : Bool → ConditionEval → ConditionEval → ConditionEval
join_arm false = both
join_arm true = either

abbrev pub eval_arms : Bool → Table → Conditions → ConditionEval
eval_arms false = eval_condition_all
eval_arms true = eval_condition_any

abbrev pub DecisiveArms : Table → Bool → ℕ → Parsed Conditions → List ℕ → Named → Type 0
DecisiveArms T stop at p out r = Decides (eval_arms stop T) words_cs at p out r

-- An answer's parts; and that of a Has, whose fact stands first in the slice.
pub record Says (yes : Bool) (next count : ℕ) (r : Named) : Type 0 where
  pub satisfied_is : r.satisfied ≡ yes
  pub next_is : r.next ≡ next
  pub count_is : r.count ≡ count

pub record NamesFact (T : Table) (fact next : ℕ) (before after : List ℕ) (r : Named) : Type 0 where
  pub says : Says (is_present (T fact)) next 1 r
  pub stands : after ≡ set before 0 fact

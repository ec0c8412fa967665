-- What an answer stands for: document 01's number, and how many facts; and the set afterwards.
use Rattle.std.specs.Prelude.{◌≡◌, cond, Result, Ok, Err, List, [], ◌∷◌, ℕ, zero, suc, eqb, length}
use Rattle.model.specs.Policy.{Policy, names}
use Rattle.model.specs.Record.{Record, tree}
use Rattle.model.specs.Reading.{Parsed, refuse, got}
use Rattle.model.specs.Required as model
use Rattle.model.specs.Products.{Outcome}
use Rattle.refusal.specs.declared.Refusal.{Refusal}
use Rattle.refusal.specs.Numbers.{by_number}
use Rattle.required.specs.Sets.{how_many}

-- The number is 0 where facts are given, and the count 0 where it is refused.
abbrev pub number_in : Result ℕ ℕ → ℕ
number_in (Ok n) = 0
number_in (Err n) = n

abbrev pub count_in : Result ℕ ℕ → ℕ
count_in (Ok n) = n
count_in (Err n) = 0

abbrev pub number_of : Result ℕ Refusal → ℕ
number_of r = number_in (by_number r)

abbrev pub count_of : Result ℕ Refusal → ℕ
count_of r = count_in (by_number r)

-- A set of sixteen numbers becomes another; one of another length is left as it was.
abbrev pub set_after : List ℕ → List ℕ → List ℕ
set_after before set = cond (eqb (length before) 16) set before

-- How many facts the policy that was read names, if one was.
abbrev pub named_in : Parsed (Policy Outcome) → ℕ
named_in (refuse n) = 0
named_in (got t ws) = how_many (λ f. names f t)

-- The tree of a record that was read.
abbrev pub tree_of : Parsed (Record Outcome) → Parsed (Policy Outcome)
tree_of (refuse n) = refuse n
tree_of (got r ws) = got (tree r) ws

-- The answer to what the model requires: the facts' count where the number is 0, or else the refusal.
abbrev pub answer : ℕ → ℕ → Result ℕ ℕ
answer zero count = Ok count
answer (suc n) count = Err (suc n)

abbrev pub required_of : model.Required → Result ℕ ℕ
required_of m = answer m.number m.count

-- Document 01's number and count of an answer are the model's.
pub record Counted (m : model.Required) (r : Result ℕ Refusal) : Type 0 where
  pub number_is : number_of r ≡ m.number
  pub count_is : count_of r ≡ m.count

-- The answer and the set afterwards, from what the model requires and what was read.
pub record Answered (m : model.Required) (read : Parsed (Policy Outcome)) (before after : List ℕ) (r : Result ℕ Refusal) : Type 0 where
  pub answer_is : by_number r ≡ required_of m
  pub named_is : count_of r ≡ named_in read
  pub set_is : after ≡ set_after before m.set

-- The set of the facts of a policy that was read to the last word. Of other words nothing is said.
unfoldable pub SetOf : Parsed (Policy Outcome) → List ℕ → Type 0
SetOf (refuse n) set = Unit {0}
SetOf (got t []) set = set ≡ model.fact_set (λ f. names f t)
SetOf (got t (w ∷ ws)) set = Unit {0}

-- Their count, and the set that becomes theirs.
pub record Given (facts : List ℕ) (before after : List ℕ) (count : ℕ) : Type 0 where
  pub counted : count ≡ model.ones facts
  pub set_is : after ≡ set_after before facts

unfoldable pub FactsOf : Parsed (Policy Outcome) → List ℕ → List ℕ → ℕ → Type 0
FactsOf (refuse n) before after count = Unit {0}
FactsOf (got t []) before after count = Given (model.fact_set (λ f. names f t)) before after count
FactsOf (got t (w ∷ ws)) before after count = Unit {0}

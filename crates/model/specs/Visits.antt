-- How many nodes direct evaluation visits, policy and condition alike, each time that it does. Request 10, with the early ends of document 01:
-- arms after the deciding one aren't visited, nor are a policy All's after its deny, nor the fallback after a permit.
use Rattle.std.specs.Prelude.{ℕ, ◌+◌}
use Rattle.model.specs.Facts.{Table}
use Rattle.model.specs.Outcome.{Outcomes}
use Rattle.model.specs.Condition.{Condition, always, never, has, not_c, all_c, any_c, Conditions, cnil, ccons, ConditionEval, satisfied, unsatisfied, eval_condition}
use Rattle.model.specs.Decision.{Decision, permits, denies}
use Rattle.model.specs.Policy.{Policy, permit, deny, grant, all, any, or_else, stored, Policies, pnil, pcons}
use Rattle.model.specs.Evaluate.{eval_policy}

-- So many nodes more, unless the walk ends here.
abbrev pub if_true : ConditionEval → ℕ → ℕ
if_true (satisfied fs) n = n
if_true (unsatisfied fs) n = 0

abbrev pub if_false : ConditionEval → ℕ → ℕ
if_false (satisfied fs) n = 0
if_false (unsatisfied fs) n = n

abbrev pub if_permits : {O : Type 0} → Decision O → ℕ → ℕ
if_permits (permits p) n = n
if_permits (denies d) n = 0

abbrev pub if_denies : {O : Type 0} → Decision O → ℕ → ℕ
if_denies (permits p) n = 0
if_denies (denies d) n = n

-- A condition: itself, and its arms up to and including the one that decides.
abbrev mutual
  pub visits_c : Table → Condition → ℕ
  visits_c T always = 1
  visits_c T never = 1
  visits_c T (has f) = 1
  visits_c T (not_c c) = 1 + visits_c T c
  visits_c T (all_c cs) = 1 + visits_all_c T cs
  visits_c T (any_c cs) = 1 + visits_any_c T cs

  pub visits_all_c : Table → Conditions → ℕ
  visits_all_c T cnil = 0
  visits_all_c T (ccons c cs) = visits_c T c + if_true (eval_condition T c) (visits_all_c T cs)

  pub visits_any_c : Table → Conditions → ℕ
  visits_any_c T cnil = 0
  visits_any_c T (ccons c cs) = visits_c T c + if_false (eval_condition T c) (visits_any_c T cs)

-- A policy: itself, and a grant's condition; All's arms up to and including its deny, each arm of Any, and OrElse's fallback after a deny alone.
module _ (L : Outcomes) where
  abbrev mutual
    pub visits : Table → Policy L.O → ℕ
    visits T (permit o) = 1
    visits T deny = 1
    visits T (grant g c) = 1 + visits_c T c
    visits T (all ts) = 1 + visits_all T ts
    visits T (any ts) = 1 + visits_any T ts
    visits T (or_else a b) = 1 + (visits T a + if_denies (eval_policy L T a) (visits T b))
    visits T (stored d) = 1

    pub visits_all : Table → Policies L.O → ℕ
    visits_all T pnil = 0
    visits_all T (pcons t ts) = visits T t + if_permits (eval_policy L T t) (visits_all T ts)

    pub visits_any : Table → Policies L.O → ℕ
    visits_any T pnil = 0
    visits_any T (pcons t ts) = visits T t + visits_any T ts

-- Evaluation: what a policy decides under a known table. Document 01, "Policies".
use Rattle.std.proofs.Math.Option.{Option, none, some}
use Rattle.std.specs.Prelude.{List, [], ◌∷◌}
use Rattle.model.specs.Facts.{Table}
use Rattle.model.specs.Outcome.{Outcomes}
use Rattle.model.specs.Condition.{ConditionEval, satisfied, unsatisfied, eval_condition}
use Rattle.model.specs.Decision.{Permit, Denial, Decision, permits, denies, combined, generic_deny, meet_in, join_in}
use Rattle.model.specs.Policy.{Grant, Policy, permit, deny, grant, all, any, or_else, stored, Policies, pnil, pcons}

-- A true Grant permits its outcome with obligations, label and named facts; a false one denies it with named facts, label, reason and shape.
abbrev pub eval_grant : {O : Type 0} → Grant O → ConditionEval → Decision O
eval_grant g (satisfied fs) = permits (record { outcome = g.outcome; obligations = g.obligations; label = g.label; facts = fs })
eval_grant g (unsatisfied fs) = denies (record { denied = some g.outcome; facts = fs; label = g.label; reason = g.reason; shape = g.shape })

-- OrElse takes the fallback only on deny.
abbrev pub first_of : {O : Type 0} → Decision O → Decision O → Decision O
first_of (permits p) fallback = permits p
first_of (denies d) fallback = fallback

-- Of two denies the first.
abbrev pub first_deny : {O : Type 0} → Option (Denial O) → Denial O → Denial O
first_deny none d = d
first_deny (some c) d = c

module _ (L : Outcomes) where
  -- All returns its first denying arm and folds permits by meet; an empty one denies.
  abbrev pub all_end : Option (Permit L.O) → Decision L.O
  all_end none = denies generic_deny
  all_end (some p) = permits p

  abbrev pub all_from : Option (Permit L.O) → List (Decision L.O) → Decision L.O
  all_from sofar [] = all_end sofar
  all_from sofar (permits q ∷ ds) = all_from (some (meet_in L sofar q)) ds
  all_from sofar (denies d ∷ ds) = denies d

  -- Any visits every arm, folds permits by join, and denies with the first deny's clause; an empty one denies.
  abbrev pub any_end : Option (Permit L.O) → Option (Denial L.O) → Decision L.O
  any_end (some p) d = permits p
  any_end none (some d) = denies d
  any_end none none = denies generic_deny

  abbrev pub any_from : Option (Permit L.O) → Option (Denial L.O) → List (Decision L.O) → Decision L.O
  any_from sofar first [] = any_end sofar first
  any_from sofar first (permits q ∷ ds) = any_from (some (join_in L sofar q)) first ds
  any_from sofar first (denies d ∷ ds) = any_from sofar (some (first_deny first d)) ds

  -- Nodes 12 and 13 resolve to their stored decision ("Narrowing, completing").
  abbrev mutual
    pub eval_policy : Table → Policy L.O → Decision L.O
    eval_policy T (permit o) = permits (combined o [])
    eval_policy T deny = denies generic_deny
    eval_policy T (grant g c) = eval_grant g (eval_condition T c)
    eval_policy T (all ts) = all_from none (eval_policies T ts)
    eval_policy T (any ts) = any_from none none (eval_policies T ts)
    eval_policy T (or_else a b) = first_of (eval_policy T a) (eval_policy T b)
    eval_policy T (stored d) = d

    pub eval_policies : Table → Policies L.O → List (Decision L.O)
    eval_policies T pnil = []
    eval_policies T (pcons t ts) = eval_policy T t ∷ eval_policies T ts

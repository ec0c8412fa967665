-- Reduction: what is left of a policy under a table that leaves facts open. Document 01, "Reducing", and request 8.
use Rattle.std.specs.Prelude.{Bool, true, false, not, cond, List, [], ◌∷◌, ℕ}
use Rattle.std.proofs.Math.Option.{Option, none, some}
use Rattle.model.specs.Facts.{Presence, absent, present, unknown, silent, Table}
use Rattle.model.specs.Outcome.{Outcomes}
use Rattle.model.specs.Condition.{Condition, always, never, has, not_c, all_c, any_c, Conditions, cnil, ccons, ConditionEval, unless_none, eval_condition}
use Rattle.model.specs.Decision.{Permit, Denial, Decision, permits, denies, combined, generic_deny}
use Rattle.model.specs.Policy.{Grant, Policy, permit, deny, grant, all, any, or_else, stored, Policies, pnil, pcons}
use Rattle.model.specs.Evaluate.{eval_grant, eval_policy}

-- ---- conditions

-- A condition under a table that leaves facts open: known, or a condition that is left.
pub data ReducedCondition : Type 0 where
  known : Bool → ReducedCondition
  pending_c : Condition → ReducedCondition

-- Has on an Unknown fact is pending.
abbrev pub reduce_has : ℕ → Presence → ReducedCondition
reduce_has f absent = known false
reduce_has f present = known true
reduce_has f unknown = pending_c (has f)
reduce_has f silent = known false

-- Not flips a known condition and wraps a pending one.
abbrev pub flip_r : ReducedCondition → ReducedCondition
flip_r (known b) = known (not b)
flip_r (pending_c c) = pending_c (not_c c)

-- A walk over the arms: an arm decided the list, or these arms are pending.
pub data ConditionWalk : Type 0 where
  stopped : ConditionWalk
  through : Conditions → ConditionWalk

-- All: a known false arm stops the walk; a known true one drops out.
abbrev pub step_all_c : ReducedCondition → ConditionWalk → ConditionWalk
step_all_c (known false) w = stopped
step_all_c (known true) w = w
step_all_c (pending_c c) stopped = stopped
step_all_c (pending_c c) (through cs) = through (ccons c cs)

-- Any: a known true arm stops the walk; a known false one drops out.
abbrev pub step_any_c : ReducedCondition → ConditionWalk → ConditionWalk
step_any_c (known true) w = stopped
step_any_c (known false) w = w
step_any_c (pending_c c) stopped = stopped
step_any_c (pending_c c) (through cs) = through (ccons c cs)

-- No pending arm: known. One: it stands by itself. More: a list of them.
abbrev pub end_all_c : ConditionWalk → ReducedCondition
end_all_c stopped = known false
end_all_c (through cnil) = known true
end_all_c (through (ccons c cnil)) = pending_c c
end_all_c (through (ccons c (ccons d cs))) = pending_c (all_c (ccons c (ccons d cs)))

abbrev pub end_any_c : ConditionWalk → ReducedCondition
end_any_c stopped = known true
end_any_c (through cnil) = known false
end_any_c (through (ccons c cnil)) = pending_c c
end_any_c (through (ccons c (ccons d cs))) = pending_c (any_c (ccons c (ccons d cs)))

abbrev mutual
  pub reduce_condition : Table → Condition → ReducedCondition
  reduce_condition P always = known true
  reduce_condition P never = known false
  reduce_condition P (has f) = reduce_has f (P f)
  reduce_condition P (not_c c) = flip_r (reduce_condition P c)
  reduce_condition P (all_c cs) = unless_none cs (known false) (end_all_c (reduce_condition_all P cs))
  reduce_condition P (any_c cs) = end_any_c (reduce_condition_any P cs)

  pub reduce_condition_all : Table → Conditions → ConditionWalk
  reduce_condition_all P cnil = through cnil
  reduce_condition_all P (ccons c cs) = step_all_c (reduce_condition P c) (reduce_condition_all P cs)

  pub reduce_condition_any : Table → Conditions → ConditionWalk
  reduce_condition_any P cnil = through cnil
  reduce_condition_any P (ccons c cs) = step_any_c (reduce_condition P c) (reduce_condition_any P cs)

-- ---- policies

-- A tree under a table that leaves facts open: resolved, or a tree that is left.
pub data ReducedPolicy (O : Type 0) : Type 0 where
  resolved : Decision O → ReducedPolicy O
  pending : Policy O → ReducedPolicy O

-- Resolved parts kept in a residual are nodes 12 or 13.
abbrev pub as_residual : {O : Type 0} → ReducedPolicy O → Policy O
as_residual (resolved d) = stored d
as_residual (pending t) = t

-- How a list with pending arms holds its arms: resolved permits first, as document 01 has it, or in sheet order (request 8).
pub data Order : Type 0 where
  permits_first sheet_order : Order

-- ---- permits first
abbrev pub arms : {O : Type 0} → List (Permit O) → Policies O → Policies O
arms [] qs = qs
arms (p ∷ ps) qs = pcons (stored (permits p)) (arms ps qs)

-- Any without resolved permits holds its first resolved deny first.
abbrev pub kept : {O : Type 0} → List (Permit O) → Option (Denial O) → Policies O → Policies O
kept [] none qs = qs
kept [] (some d) qs = pcons (stored (denies d)) qs
kept (p ∷ ps) first qs = arms (p ∷ ps) qs

-- The walk over the arms of All: a resolved deny decided it, or these permits and these pending arms are left.
pub data AllWalk (O : Type 0) : Type 0 where
  stop : Denial O → AllWalk O
  go : List (Permit O) → Policies O → AllWalk O

abbrev pub step_all : {O : Type 0} → ReducedPolicy O → AllWalk O → AllWalk O
step_all (resolved (denies d)) w = stop d
step_all (resolved (permits p)) (stop d) = stop d
step_all (resolved (permits p)) (go ps qs) = go (p ∷ ps) qs
step_all (pending q) (stop d) = stop d
step_all (pending q) (go ps qs) = go ps (pcons q qs)

abbrev pub walked_all : {O : Type 0} → List (ReducedPolicy O) → AllWalk O
walked_all [] = go [] pnil
walked_all (r ∷ rs) = step_all r (walked_all rs)

-- The walk over the arms of Any: permits, the first deny, pending arms.
pub data AnyWalk (O : Type 0) : Type 0 where
  parts : List (Permit O) → Option (Denial O) → Policies O → AnyWalk O

abbrev pub step_any : {O : Type 0} → ReducedPolicy O → AnyWalk O → AnyWalk O
step_any (resolved (denies d)) (parts ps first qs) = parts ps (some d) qs
step_any (resolved (permits p)) (parts ps first qs) = parts (p ∷ ps) first qs
step_any (pending q) (parts ps first qs) = parts ps first (pcons q qs)

abbrev pub walked_any : {O : Type 0} → List (ReducedPolicy O) → AnyWalk O
walked_any [] = parts [] none pnil
walked_any (r ∷ rs) = step_any r (walked_any rs)

-- ---- in sheet order
-- All holds its arms up to and including the first resolved deny, and drops the rest.
abbrev pub until_deny : {O : Type 0} → ReducedPolicy O → List (ReducedPolicy O) → List (ReducedPolicy O)
until_deny (resolved (denies d)) later = resolved (denies d) ∷ []
until_deny (resolved (permits p)) later = resolved (permits p) ∷ later
until_deny (pending q) later = pending q ∷ later

abbrev pub up_to_deny : {O : Type 0} → List (ReducedPolicy O) → List (ReducedPolicy O)
up_to_deny [] = []
up_to_deny (r ∷ rs) = until_deny r (up_to_deny rs)

-- The arms as they stand.
abbrev pub in_order : {O : Type 0} → List (ReducedPolicy O) → Policies O
in_order [] = pnil
in_order (r ∷ rs) = pcons (as_residual r) (in_order rs)

abbrev pub any_pending : {O : Type 0} → List (ReducedPolicy O) → Bool
any_pending [] = false
any_pending (resolved d ∷ rs) = any_pending rs
any_pending (pending q ∷ rs) = true

-- ---- grants and OrElse
-- A known grant is evaluated again, from the partial table itself; a pending one holds what is left of its condition.
abbrev pub reduce_grant : {O : Type 0} → Grant O → ConditionEval → ReducedCondition → ReducedPolicy O
reduce_grant g v (known b) = resolved (eval_grant g v)
reduce_grant g v (pending_c c) = pending (grant g c)

-- OrElse: a resolved permit of the primary is the answer; after a resolved deny the fallback is; with a pending primary both are kept.
abbrev pub reduce_or_else : {O : Type 0} → ReducedPolicy O → ReducedPolicy O → ReducedPolicy O
reduce_or_else (resolved (permits p)) b = resolved (permits p)
reduce_or_else (resolved (denies d)) b = b
reduce_or_else (pending a) b = pending (or_else a (as_residual b))

module _ (L : Outcomes) where
  -- A list without pending arms resolves by the list rule (the arms kept name nothing, so that any table serves).
  abbrev pub end_all : Table → AllWalk L.O → ReducedPolicy L.O
  end_all T (stop d) = resolved (denies d)
  end_all T (go ps pnil) = resolved (eval_policy L T (all (arms ps pnil)))
  end_all T (go ps (pcons q qs)) = pending (all (arms ps (pcons q qs)))

  abbrev pub end_any : Table → AnyWalk L.O → ReducedPolicy L.O
  end_any T (parts ps first pnil) = resolved (eval_policy L T (any (kept ps first pnil)))
  end_any T (parts ps first (pcons q qs)) = pending (any (kept ps first (pcons q qs)))

  -- In sheet order a list with a pending arm holds its arms as they stand. So an All resolves to a deny only if no pending arm stands before it.
  abbrev pub end_in_order : (Policies L.O → Policy L.O) → Table → List (ReducedPolicy L.O) → ReducedPolicy L.O
  end_in_order list T rs = cond (any_pending rs) (pending (list (in_order rs))) (resolved (eval_policy L T (list (in_order rs))))

  -- What a list comes to, from its arms reduced. In sheet order an Any holds all arms.
  abbrev pub all_of : Order → Table → List (ReducedPolicy L.O) → ReducedPolicy L.O
  all_of permits_first T rs = end_all T (walked_all rs)
  all_of sheet_order T rs = end_in_order all T (up_to_deny rs)

  abbrev pub any_of : Order → Table → List (ReducedPolicy L.O) → ReducedPolicy L.O
  any_of permits_first T rs = end_any T (walked_any rs)
  any_of sheet_order T rs = end_in_order any T rs

  module _ (o : Order) where
    abbrev mutual
      pub reduce_policy : Table → Policy L.O → ReducedPolicy L.O
      reduce_policy P (permit x) = resolved (permits (combined x []))
      reduce_policy P deny = resolved (denies generic_deny)
      reduce_policy P (grant g c) = reduce_grant g (eval_condition P c) (reduce_condition P c)
      reduce_policy P (all ts) = all_of o P (reduce_arms P ts)
      reduce_policy P (any ts) = any_of o P (reduce_arms P ts)
      reduce_policy P (or_else a b) = reduce_or_else (reduce_policy P a) (reduce_policy P b)
      reduce_policy P (stored d) = resolved d

      pub reduce_arms : Table → Policies L.O → List (ReducedPolicy L.O)
      reduce_arms P pnil = []
      reduce_arms P (pcons t ts) = reduce_policy P t ∷ reduce_arms P ts

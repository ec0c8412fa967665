-- Consulted facts: which facts a walk reads, in which order. Document 01, "Conditions", "Reducing" and "Narrowing, completing"; request 7.
use Rattle.std.specs.Prelude.{Bool, true, false, cond, ◌||◌, List, [], ◌∷◌, ◌++◌, ℕ, eqb}
use Rattle.model.specs.Facts.{Presence, absent, present, unknown, silent, Table}
use Rattle.model.specs.Outcome.{Outcomes}
use Rattle.model.specs.Condition.{Condition, always, never, has, not_c, all_c, any_c, Conditions, cnil, ccons, ConditionEval, satisfied, unsatisfied, eval_condition}
use Rattle.model.specs.Decision.{Decision, permits, denies}
use Rattle.model.specs.Policy.{Policy, permit, deny, grant, all, any, or_else, stored, Policies, pnil, pcons}
use Rattle.model.specs.Evaluate.{eval_policy}
use Rattle.model.specs.Partial.{ReducedCondition, known, pending_c, reduce_condition, ReducedPolicy, resolved, pending, Order, reduce_policy}

-- A fact as it was first read.
pub record Entry : Type 0 where
  pub fact : ℕ
  pub seen : Presence

abbrev pub Consulted : Type 0
Consulted = List Entry

abbrev pub is_consulted : ℕ → Consulted → Bool
is_consulted f [] = false
is_consulted f (e ∷ es) = eqb f e.fact || is_consulted f es

-- Each fact is consulted once, at first reading.
abbrev pub consult : Consulted → ℕ → Presence → Consulted
consult l f p = cond (is_consulted f l) l (l ++ record { fact = f; seen = p } ∷ [])

-- A reduction does not consult an Unknown fact.
abbrev pub consult_known : Consulted → ℕ → Presence → Consulted
consult_known l f absent = consult l f absent
consult_known l f present = consult l f present
consult_known l f unknown = l
consult_known l f silent = consult l f silent

-- Prior consulted facts, once each, the first entry kept.
abbrev pub once_from : Consulted → Consulted → Consulted
once_from l [] = l
once_from l (e ∷ es) = once_from (consult l e.fact e.seen) es

abbrev pub once : Consulted → Consulted
once es = once_from [] es

-- Request 7: a later reading contradicts an entry if one of them is Present and the other Absent. Unknown and silence, on either side, contradict nothing.
abbrev pub contradicts : Presence → Presence → Bool
contradicts absent absent = false
contradicts absent present = true
contradicts absent unknown = false
contradicts absent silent = false
contradicts present absent = true
contradicts present present = false
contradicts present unknown = false
contradicts present silent = false
contradicts unknown q = false
contradicts silent q = false

-- Every entry counts, repeated ones too.
abbrev pub any_contradicted : Table → Consulted → Bool
any_contradicted P [] = false
any_contradicted P (e ∷ es) = contradicts e.seen (P e.fact) || any_contradicted P es

-- ---- what evaluation consults: arms after the deciding one aren't read
abbrev pub after_true : ConditionEval → Consulted → Consulted → Consulted
after_true (satisfied fs) here on = on
after_true (unsatisfied fs) here on = here

abbrev pub after_false : ConditionEval → Consulted → Consulted → Consulted
after_false (satisfied fs) here on = here
after_false (unsatisfied fs) here on = on

abbrev mutual
  pub read_c : Table → Condition → Consulted → Consulted
  read_c T always l = l
  read_c T never l = l
  read_c T (has f) l = consult l f (T f)
  read_c T (not_c c) l = read_c T c l
  read_c T (all_c cs) l = read_all_c T cs l
  read_c T (any_c cs) l = read_any_c T cs l

  pub read_all_c : Table → Conditions → Consulted → Consulted
  read_all_c T cnil l = l
  read_all_c T (ccons c cs) l = after_true (eval_condition T c) (read_c T c l) (read_all_c T cs (read_c T c l))

  pub read_any_c : Table → Conditions → Consulted → Consulted
  read_any_c T cnil l = l
  read_any_c T (ccons c cs) l = after_false (eval_condition T c) (read_c T c l) (read_any_c T cs (read_c T c l))

abbrev pub after_permit : {O : Type 0} → Decision O → Consulted → Consulted → Consulted
after_permit (permits p) here on = on
after_permit (denies d) here on = here

abbrev pub after_deny : {O : Type 0} → Decision O → Consulted → Consulted → Consulted
after_deny (permits p) here on = here
after_deny (denies d) here on = on

-- ---- what a reduction consults: the arms walked
abbrev pub unless_false : ReducedCondition → Consulted → Consulted → Consulted
unless_false (known false) here on = here
unless_false (known true) here on = on
unless_false (pending_c c) here on = on

abbrev pub unless_true : ReducedCondition → Consulted → Consulted → Consulted
unless_true (known true) here on = here
unless_true (known false) here on = on
unless_true (pending_c c) here on = on

abbrev mutual
  pub walk_c : Table → Condition → Consulted → Consulted
  walk_c P always l = l
  walk_c P never l = l
  walk_c P (has f) l = consult_known l f (P f)
  walk_c P (not_c c) l = walk_c P c l
  walk_c P (all_c cs) l = walk_all_c P cs l
  walk_c P (any_c cs) l = walk_any_c P cs l

  pub walk_all_c : Table → Conditions → Consulted → Consulted
  walk_all_c P cnil l = l
  walk_all_c P (ccons c cs) l = unless_false (reduce_condition P c) (walk_c P c l) (walk_all_c P cs (walk_c P c l))

  pub walk_any_c : Table → Conditions → Consulted → Consulted
  walk_any_c P cnil l = l
  walk_any_c P (ccons c cs) l = unless_true (reduce_condition P c) (walk_c P c l) (walk_any_c P cs (walk_c P c l))

abbrev pub unless_denied : {O : Type 0} → ReducedPolicy O → Consulted → Consulted → Consulted
unless_denied (resolved (permits p)) here on = on
unless_denied (resolved (denies d)) here on = here
unless_denied (pending t) here on = on

abbrev pub unless_permitted : {O : Type 0} → ReducedPolicy O → Consulted → Consulted → Consulted
unless_permitted (resolved (permits p)) here on = here
unless_permitted (resolved (denies d)) here on = on
unless_permitted (pending t) here on = on

module _ (L : Outcomes) where
  abbrev mutual
    pub read : Table → Policy L.O → Consulted → Consulted
    read T (permit o) l = l
    read T deny l = l
    read T (grant g c) l = read_c T c l
    read T (all ts) l = read_all T ts l
    read T (any ts) l = read_any T ts l
    read T (or_else a b) l = after_deny (eval_policy L T a) (read T a l) (read T b (read T a l))
    read T (stored d) l = l

    pub read_all : Table → Policies L.O → Consulted → Consulted
    read_all T pnil l = l
    read_all T (pcons t ts) l = after_permit (eval_policy L T t) (read T t l) (read_all T ts (read T t l))

    pub read_any : Table → Policies L.O → Consulted → Consulted
    read_any T pnil l = l
    read_any T (pcons t ts) l = read_any T ts (read T t l)

  -- The walk stops at a resolved deny of All, under either order: an All inside that is pending doesn't stop the one around it.
  module _ (o : Order) where
    abbrev mutual
      pub walk : Table → Policy L.O → Consulted → Consulted
      walk P (permit x) l = l
      walk P deny l = l
      walk P (grant g c) l = walk_c P c l
      walk P (all ts) l = walk_all P ts l
      walk P (any ts) l = walk_any P ts l
      walk P (or_else a b) l = unless_permitted (reduce_policy L o P a) (walk P a l) (walk P b (walk P a l))
      walk P (stored d) l = l

      pub walk_all : Table → Policies L.O → Consulted → Consulted
      walk_all P pnil l = l
      walk_all P (pcons t ts) l = unless_denied (reduce_policy L o P t) (walk P t l) (walk_all P ts (walk P t l))

      pub walk_any : Table → Policies L.O → Consulted → Consulted
      walk_any P pnil l = l
      walk_any P (pcons t ts) l = walk_any P ts (walk P t l)

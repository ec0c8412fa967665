-- Whether a node holds, and the nodes visited by then, from facts alone: a condition holds where it is satisfied, a policy where it permits. A list rule
-- goes by the value that decides it: false for All, true for a condition's Any and for the two policies of an OrElse.
use Rattle.std.specs.Prelude.{Bool, true, false, cond, not, ◌||◌, ℕ, ◌+◌}
use Rattle.std.specs.Bool.{beq}
use Rattle.model.specs.Facts.{Table}
use Rattle.model.specs.Condition.{Condition, Conditions, cnil, ccons, eval_condition}
use Rattle.model.specs.Decision.{Decision, permits, denies}
use Rattle.model.specs.Policy.{Policy, permit, deny, grant, all, any, or_else, stored, Policies, pnil, pcons}
use Rattle.model.specs.Visits.{visits_c}
use Rattle.laws.specs.Truth.{is_satisfied}

abbrev pub is_permit : {O : Type 0} → Decision O → Bool
is_permit (permits p) = true
is_permit (denies d) = false

-- ---- conditions
abbrev pub holds_c : Table → Condition → Bool
holds_c T c = is_satisfied (eval_condition T c)

-- Arms up to and including the one that decides: their value, and the nodes.
abbrev pub holds_cs : Bool → Table → Conditions → Bool
holds_cs stop T cnil = not stop
holds_cs stop T (ccons c cs) = cond (beq (holds_c T c) stop) stop (holds_cs stop T cs)

abbrev pub visits_cs : Bool → Table → Conditions → ℕ
visits_cs stop T cnil = 0
visits_cs stop T (ccons c cs) = visits_c T c + cond (beq (holds_c T c) stop) 0 (visits_cs stop T cs)

-- ---- policies
-- Without arms the first, else the second.
abbrev pub unless_none : {O A : Type 0} → Policies O → A → A → A
unless_none pnil a b = a
unless_none (pcons t ts) a b = b

abbrev mutual
  pub holds_p : {O : Type 0} → Table → Policy O → Bool
  holds_p T (permit o) = true
  holds_p T deny = false
  holds_p T (grant g c) = holds_c T c
  holds_p T (all ts) = unless_none ts false (holds_ps false T ts)
  holds_p T (any ts) = holds_any T false ts
  holds_p T (or_else a b) = cond (beq (holds_p T a) true) true (cond (beq (holds_p T b) true) true false)
  holds_p T (stored d) = is_permit d

  pub holds_ps : {O : Type 0} → Bool → Table → Policies O → Bool
  holds_ps stop T pnil = not stop
  holds_ps stop T (pcons t ts) = cond (beq (holds_p T t) stop) stop (holds_ps stop T ts)

  -- Every arm of an Any, after arms of which some permitted or none.
  pub holds_any : {O : Type 0} → Table → Bool → Policies O → Bool
  holds_any T sofar pnil = sofar
  holds_any T sofar (pcons t ts) = holds_any T (sofar || holds_p T t) ts

abbrev mutual
  pub nodes_p : {O : Type 0} → Table → Policy O → ℕ
  nodes_p T (permit o) = 1
  nodes_p T deny = 1
  nodes_p T (grant g c) = 1 + visits_c T c
  nodes_p T (all ts) = 1 + nodes_ps false T ts
  nodes_p T (any ts) = 1 + nodes_any T ts
  nodes_p T (or_else a b) = 1 + (nodes_p T a + cond (beq (holds_p T a) true) 0 (nodes_p T b + cond (beq (holds_p T b) true) 0 0))
  nodes_p T (stored d) = 1

  pub nodes_ps : {O : Type 0} → Bool → Table → Policies O → ℕ
  nodes_ps stop T pnil = 0
  nodes_ps stop T (pcons t ts) = nodes_p T t + cond (beq (holds_p T t) stop) 0 (nodes_ps stop T ts)

  pub nodes_any : {O : Type 0} → Table → Policies O → ℕ
  nodes_any T pnil = 0
  nodes_any T (pcons t ts) = nodes_p T t + nodes_any T ts

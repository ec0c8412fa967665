-- What the first word of a node says, and what is read of a node by what its first word says. Document 01, "What a call receives".
use Rattle.std.specs.Prelude.{Bool, true, false, cond, List, [], ◌∷◌, ℕ, ◌+◌, ◌-◌, ◌/◌, ◌%◌, ◌^◌, eqb, ltb, leb, get_or}
use Rattle.std.specs.Prelude as prelude
use Rattle.std.proofs.Math.Option.{Option, none, some}
use Rattle.model.specs.Fields.{bits}
use Rattle.model.specs.Facts.{fact_count}
use Rattle.model.specs.Outcome.{outcome_bits}
use Rattle.model.specs.Condition.{Condition, always, never, has, not_c, all_c, any_c, cnil, ccons}
use Rattle.model.specs.Decision.{Decision}
use Rattle.model.specs.Policy.{Policy, permit, deny, all, any, or_else, pnil, pcons}
use Rattle.model.specs.Writing.{count_bits, mark_bits}
use Rattle.model.specs.Reading.{Parsed, refuse, got, next, another, many, kind_of, rest_of, few_obligations}
use Rattle.model.specs.Products.{Outcome, grant_more, more12, more13, as_stored}
use Rattle.policy_model.specs.declared.ConditionHead.{ConditionHead}
use Rattle.policy_model.specs.declared.ConditionHead.TheVariants.{Always, Never, Has, Not}
use Rattle.policy_model.specs.declared.ConditionHead.TheVariants as condition
use Rattle.policy_model.specs.declared.DenyShape.{DenyShape}
use Rattle.policy_model.specs.declared.DenyShape.TheVariants.{Forbidden, Hidden}
use Rattle.policy_model.specs.declared.PolicyHead.{PolicyHead}
use Rattle.policy_model.specs.declared.PolicyHead.TheVariants.{Permit, Deny, Grant, OrElse, PermitWithTrace, DenyWithTrace}
use Rattle.policy_model.specs.declared.PolicyHead.TheVariants as policy

-- ---- conditions

-- By kind: 0 Always, 1 Never, 2 Has, 3 Not, 4 All, 5 Any.
abbrev pub condition_heads : ℕ → List ConditionHead
condition_heads r =
    cond (eqb r 0) Always condition.BadField
    ∷ cond (eqb r 0) Never condition.BadField
    ∷ cond (ltb r fact_count) (Has r) condition.BadField
    ∷ cond (eqb r 0) Not condition.BadField
    ∷ cond (ltb r (2 ^ count_bits)) (condition.All r) condition.BadField
    ∷ cond (ltb r (2 ^ count_bits)) (condition.Any r) condition.BadField
    ∷ []

unfoldable pub condition_head : ℕ → ConditionHead
condition_head w = get_or (condition_heads (rest_of w)) (kind_of w) condition.BadKind

-- The rest of a condition by its head, its arms read by p.
unfoldable pub condition_node : (List ℕ → Parsed Condition) → ConditionHead → List ℕ → Parsed Condition
condition_node p Always ws = got always ws
condition_node p Never ws = got never ws
condition_node p (Has f) ws = got (has f) ws
condition_node p Not ws = next (p ws) (λ c vs. got (not_c c) vs)
condition_node p (condition.All n) ws = next (many cnil ccons p n ws) (λ cs vs. got (all_c cs) vs)
condition_node p (condition.Any n) ws = next (many cnil ccons p n ws) (λ cs vs. got (any_c cs) vs)
condition_node p condition.BadKind ws = refuse 5
condition_node p condition.BadField ws = refuse 8

-- The refusal below the last level: the kind is looked at first, the fields never.
abbrev pub deep_condition : ConditionHead → ℕ
deep_condition Always = 7
deep_condition Never = 7
deep_condition (Has f) = 7
deep_condition Not = 7
deep_condition (condition.All n) = 7
deep_condition (condition.Any n) = 7
deep_condition condition.BadKind = 5
deep_condition condition.BadField = 7

-- ---- policies

-- A shape by its bit, and the bit of it.
abbrev pub shape_by : Bool → DenyShape
shape_by false = Forbidden
shape_by true = Hidden

abbrev pub bit_of : DenyShape → ℕ
bit_of Forbidden = 0
bit_of Hidden = 1

-- The denied outcome, if there is one.
abbrev pub denied_by : prelude.Option ℕ → Option ℕ
denied_by prelude.None = none
denied_by (prelude.Some o) = some o

-- 6 Permit: zero (12), outcome (16).
unfoldable pub permit_head : ℕ → PolicyHead
permit_head r = cond (eqb (r / 2 ^ outcome_bits) 0) (Permit (r % 2 ^ outcome_bits)) policy.BadField

-- 8 Grant: shape (1), obligation count (7), zero (4), outcome (16).
unfoldable pub grant_head : ℕ → PolicyHead
grant_head r =
    cond (few_obligations (bits (4 + outcome_bits) 7 r))
    (cond (eqb (bits outcome_bits 4 r) 0)
    (Grant (shape_by (eqb (r / 2 ^ (7 + 4 + outcome_bits)) 1)) (bits (4 + outcome_bits) 7 r) (r % 2 ^ outcome_bits))
    policy.BadField)
    policy.BadField

-- 12 PermitWithTrace: shape 0 (1), obligation count (7), zero (4), outcome (16).
unfoldable pub permit_trace_head : ℕ → PolicyHead
permit_trace_head r =
    cond (eqb (r / 2 ^ (7 + 4 + outcome_bits)) 0)
    (cond (eqb (bits outcome_bits 4 r) 0) (PermitWithTrace (bits (4 + outcome_bits) 7 r) (r % 2 ^ outcome_bits)) policy.BadField)
    policy.BadField

-- 13 DenyWithTrace: shape (1), denied present (1), zero (10), outcome (16; 0 if not present).
unfoldable pub deny_trace_head : ℕ → PolicyHead
deny_trace_head r =
    cond (eqb (bits outcome_bits 10 r) 0)
    (cond (eqb (bits (10 + outcome_bits) 1 r) 1)
    (DenyWithTrace (shape_by (eqb (r / 2 ^ (1 + 10 + outcome_bits)) 1)) (prelude.Some (r % 2 ^ outcome_bits)))
    (cond (eqb (r % 2 ^ outcome_bits) 0)
    (DenyWithTrace (shape_by (eqb (r / 2 ^ (1 + 10 + outcome_bits)) 1)) prelude.None)
    policy.BadField))
    policy.BadField

-- The kinds from 6 on: 6 Permit, 7 Deny, 8 Grant, 9 All, 10 Any, 11 OrElse; 12 and 13 in a residual.
abbrev pub policy_heads : Bool → ℕ → List PolicyHead
policy_heads res r =
    permit_head r
    ∷ cond (eqb r 0) Deny policy.BadField
    ∷ grant_head r
    ∷ cond (ltb r (2 ^ count_bits)) (policy.All r) policy.BadField
    ∷ cond (ltb r (2 ^ count_bits)) (policy.Any r) policy.BadField
    ∷ cond (eqb r 0) OrElse policy.BadField
    ∷ cond res (permit_trace_head r) policy.BadKind
    ∷ cond res (deny_trace_head r) policy.BadKind
    ∷ []

unfoldable pub policy_head : ℕ → Bool → PolicyHead
policy_head w res = cond (leb 6 (kind_of w)) (get_or (policy_heads res (rest_of w)) (kind_of w - 6) policy.BadKind) policy.BadKind

-- Whether a head's outcome is one of `most`: of 6, 8, 12, and of a 13 that has a denied outcome.
abbrev pub within_most : ℕ → PolicyHead → Bool
within_most most (Permit o) = ltb o most
within_most most Deny = true
within_most most (Grant shape n o) = ltb o most
within_most most (policy.All n) = true
within_most most (policy.Any n) = true
within_most most OrElse = true
within_most most (PermitWithTrace n o) = ltb o most
within_most most (DenyWithTrace shape prelude.None) = true
within_most most (DenyWithTrace shape (prelude.Some o)) = ltb o most
within_most most policy.BadKind = true
within_most most policy.BadField = true

-- The rest of a 12 and of a 13 by its head.
unfoldable pub permit_trace_node : ℕ → ℕ → List ℕ → Parsed (Decision Outcome)
permit_trace_node n o ws = another ws (λ w vs. more12 n o (w / 2 ^ (4 + count_bits)) (w % 2 ^ (4 + count_bits)) vs)

unfoldable pub deny_trace_node : DenyShape → prelude.Option ℕ → List ℕ → Parsed (Decision Outcome)
deny_trace_node shape denied ws =
    another ws (λ w vs. more13 (bit_of shape) (denied_by denied) (w / 2 ^ (1 + mark_bits)) (w % 2 ^ (1 + mark_bits)) vs)

unfoldable pub grant_node : (List ℕ → Parsed Condition) → DenyShape → ℕ → ℕ → List ℕ → Parsed (Policy Outcome)
grant_node pc shape n o ws = another ws (λ w vs. grant_more pc (bit_of shape) n o (w / 2 ^ (1 + mark_bits)) (w % 2 ^ (1 + mark_bits)) vs)

-- The rest of a policy by its head, a grant's condition read by pc and arms by p.
unfoldable pub policy_node : (List ℕ → Parsed Condition) → (List ℕ → Parsed (Policy Outcome)) → PolicyHead → List ℕ → Parsed (Policy Outcome)
policy_node pc p (Permit o) ws = got (permit o) ws
policy_node pc p Deny ws = got deny ws
policy_node pc p (Grant shape n o) ws = grant_node pc shape n o ws
policy_node pc p (policy.All n) ws = next (many pnil pcons p n ws) (λ ts vs. got (all ts) vs)
policy_node pc p (policy.Any n) ws = next (many pnil pcons p n ws) (λ ts vs. got (any ts) vs)
policy_node pc p OrElse ws = next (p ws) (λ a vs. next (p vs) (λ b us. got (or_else a b) us))
policy_node pc p (PermitWithTrace n o) ws = as_stored (permit_trace_node n o ws)
policy_node pc p (DenyWithTrace shape denied) ws = as_stored (deny_trace_node shape denied ws)
policy_node pc p policy.BadKind ws = refuse 5
policy_node pc p policy.BadField ws = refuse 8

-- The refusal below the last level.
abbrev pub deep_policy : PolicyHead → ℕ
deep_policy (Permit o) = 7
deep_policy Deny = 7
deep_policy (Grant shape n o) = 7
deep_policy (policy.All n) = 7
deep_policy (policy.Any n) = 7
deep_policy OrElse = 7
deep_policy (PermitWithTrace n o) = 7
deep_policy (DenyWithTrace shape denied) = 7
deep_policy policy.BadKind = 5
deep_policy policy.BadField = 7

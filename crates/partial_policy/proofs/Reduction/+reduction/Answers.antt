-- The cycle of calls of `partial_policy::Reduction::reduce_policy` meets its contracts: a policy by its head, the arms of a list one by one. Assumes nothing.
use borrow.Author.Rules.{rules}
use borrow.Enum.Refused.{opened}
use mathlib.Core.Path.{refl, sym, ◌∙◌}
use mathlib.Core.Logic.{⊎_elim}
use native.Mathlib.Omega.{arith}
use Rattle.policy_model.specs.declared.PolicyHead.TheVariants.{Grant, All, Any, OrElse}
use Rattle.partial_policy.proofs.Nodes.{by_head, reduce_end, reduce_limit, reduce_constant, reduce_permit, all_below, any_below}
use Rattle.partial_policy.proofs.Arms.{sofar_open, sofar_known, arms_with_most, going_first, going_open, going_known, arm_goes, arm_stops, arms_end, list_node_lem, or_permits, or_denies, or_open}
use Rattle.partial_policy.proofs.InOrder.{order_open, order_known, held_goes, held_ends, held_end, order_node}
use Rattle.partial_policy.proofs.Reduction.+reduction.Goals as goal

pub reduce_arm-returns-then-word-eq-PERMIT : goal.reduce_arm-returns-then-word-eq-PERMIT
reduce_arm-returns-then-word-eq-PERMIT t c =
    rw (c.resolved.ensures, c.permitted.ensures) (reduce_permit _ _ _ _ _ _ _ _ c.if-at-words.true c.if-word-eq-PERMIT.true)

pub reduce_arm-returns-then-settled_grant : goal.reduce_arm-returns-then-settled_grant
reduce_arm-returns-then-settled_grant t c = c.reduce_on_fact.ensures _ _ _ _

pub reduce_in_order-loop-left-init : goal.reduce_in_order-loop-left-init
reduce_in_order-loop-left-init t c =
    rw c.none_yet-sofar.ensures (going_first _ (omega arith) (λ r t buf out e. rw c.requires.5 (order_node _ _ _ _ _ _ _ _ r t _ _ _ buf out c.requires.0 e)))

pub reduce_in_order-loop-left-preserved-in-Pending :
    goal.reduce_in_order-loop-left-preserved-in-Pending
reduce_in_order-loop-left-preserved-in-Pending t c =
    let inv = c.loop-left.invariant in
    rw c.with_pending-sofar.ensures
    (going_open _ inv (omega (arith, c.loop-left-test.true)) (λ r t buf out e.
    held_goes _ _ _ _ _ _ _ t _ r _ _ _ _ _ _ buf out _ _ (omega (arith, c.loop-left-test.true)) _ (rw c.requires.5 at c.reduce_policy-arm.ensures) (search rules) _ _ _
    (λ k x s h _. order_open _ _ _ _ _ c.loop-left.buf c.reduce_policy-arm.new.buf c.loop-left.out c.reduce_policy-arm.new.out _ _ c.tail_from-from.ensures inv.bounds (search rules) (search rules) _ k x s (rw c.in-Pending.is at h))
    (rw c.in-Pending.is refl) e))

pub reduce_in_order-returns-then-stops : goal.reduce_in_order-returns-then-stops
reduce_in_order-returns-then-stops t c =
    let inv = c.loop-left.invariant in
    let few = rw c.in-Resolved.is at c.reduce_policy-arm.ensures.fit in
    inv.goes _ _ _ _
    (held_ends _ _ _ _ _ _ _ _ _ _ _ _ _ _ _ _ _ _ _ _ (omega (arith, c.loop-left-test.true)) _ (rw c.requires.5 at c.reduce_policy-arm.ensures) (search rules) c.in-Resolved.is (sym c.stops.ensures ∙ c.if-stops.true) c.skip_policies.ensures
    _ c.tail_from-from.ensures inv.bounds (search rules) (search rules) (search rules) _ c.end_at_deny.ensures)

pub reduce_in_order-loop-left-preserved : goal.reduce_in_order-loop-left-preserved
reduce_in_order-loop-left-preserved t c =
    let inv = c.loop-left.invariant in
    let few = rw c.in-Resolved.is at c.reduce_policy-arm.ensures.fit in
    going_known inv (omega (arith, c.loop-left-test.true)) c.with_decision_in_order-sofar.ensures.bounds (omega (arith, c.with_decision_in_order-sofar.ensures.arms_are)) (λ r t buf out e.
    held_goes _ _ _ _ _ _ _ t _ r _ _ _ _ _ _ buf out _ _ (omega (arith, c.loop-left-test.true)) _ (rw c.requires.5 at c.reduce_policy-arm.ensures) (search rules) _ _ _
    (λ k x s h n. order_known _ _ _ _ _ c.loop-left.buf c.reduce_policy-arm.new.buf c.loop-left.out c.reduce_policy-arm.new.out _ _ c.tail_from-from.ensures inv.bounds (search rules) (search rules)
    _ (search rules) _ _ _ c.with_decision_in_order-sofar.ensures k x s (rw c.in-Resolved.is at h) n)
    (rw c.in-Resolved.is (sym c.stops.ensures ∙ c.if-stops.false)) e)

pub reduce_in_order-returns : goal.reduce_in_order-returns
reduce_in_order-returns t c =
    c.loop-left.invariant.goes _ _ _ _ (held_end _ _ _ _ _ _ _ _ _ _ _ _ _ _ (omega (arith, c.loop-left-test.false)) (c.end_in_order.ensures _ _ _))

pub reduce_or_else-returns-then-decision : goal.reduce_or_else-returns-then-decision
reduce_or_else-returns-then-decision t c =
    rw c.resolved.ensures
    (or_permits _ _ _ _ _ _ _ _ _ _ c.requires.0 c.reduce_policy-primary.ensures _ c.in-Resolved.is _ _ _ c.if-decision.true c.skip_policies-end.ensures)

pub reduce_or_else-returns-in-Pending : goal.reduce_or_else-returns-in-Pending
reduce_or_else-returns-in-Pending t c =
    or_open _ _ _ _ _ _ _ _ _ c.reduce_policy-primary.new.out c.requires.0 c.reduce_policy-primary.ensures _ c.in-Pending.is _ _ _ c.args.out.now c.reduce_policy-fallback.new.out _ _ _ _ _ _
    c.tail_from-from.ensures (search rules) c.plus-used.ensures c.tail_from-behind.ensures (search rules) _ c.reduce_policy-fallback.ensures (search rules) c.end_or_else-whole.ensures

pub reduce_or_else-returns-else-decision : goal.reduce_or_else-returns-else-decision
reduce_or_else-returns-else-decision t c =
    or_denies _ _ _ _ _ _ _ _ _ _ c.requires.0 c.reduce_policy-primary.ensures _ c.in-Resolved.is _ _ _ _ _ c.if-decision.false _ c.reduce_policy.ensures (search rules)

pub reduce_permits_first-loop-left-init : goal.reduce_permits_first-loop-left-init
reduce_permits_first-loop-left-init t c =
    rw c.none_yet-sofar.ensures (going_first _ (omega arith) (λ r t buf out e. rw c.requires.5 (list_node_lem _ _ _ _ _ _ _ _ r t _ _ _ buf out c.requires.0 e)))

pub reduce_permits_first-loop-left-preserved-in-Pending :
    goal.reduce_permits_first-loop-left-preserved-in-Pending
reduce_permits_first-loop-left-preserved-in-Pending t c =
    let inv = c.loop-left.invariant in
    rw c.with_pending-sofar.ensures
    (going_open _ inv (omega (arith, c.loop-left-test.true)) (λ r t buf out e.
    arm_goes _ _ _ _ _ _ _ t _ r _ _ _ _ _ _ _ buf out _ _ (omega (arith, c.loop-left-test.true)) (rw c.requires.5 at c.reduce_arm-arm.ensures) _ _ _ _ (search rules)
    (λ k x s h _. sofar_open _ _ _ _ _ c.loop-left.buf c.reduce_arm-arm.new.buf c.loop-left.front c.reduce_arm-arm.new.front c.loop-left.out c.reduce_arm-arm.new.out _ _ _ c.tail_from-behind.ensures c.tail_from-from.ensures inv.bounds (search rules) (search rules) (search rules) (search rules) _ k x s (rw c.in-Pending.is at h))
    (rw c.in-Pending.is refl) e))

pub reduce_permits_first-returns-then-stops : goal.reduce_permits_first-returns-then-stops
reduce_permits_first-returns-then-stops t c =
    rw c.resolved.ensures
    (c.loop-left.invariant.goes _ _ _ _
    (arm_stops _ _ _ _ _ _ _ _ _ _ _ _ _ _ _ _ _ _ _ _ _ (omega (arith, c.loop-left-test.true)) (rw c.requires.5 at c.reduce_arm-arm.ensures) c.in-Resolved.is (sym c.stops.ensures ∙ c.if-stops.true) c.skip_policies-end.ensures))

pub reduce_permits_first-loop-left-preserved : goal.reduce_permits_first-loop-left-preserved
reduce_permits_first-loop-left-preserved t c =
    let inv = c.loop-left.invariant in
    let few = rw c.in-Resolved.is at c.reduce_arm-arm.ensures.fit in
    going_known inv (omega (arith, c.loop-left-test.true)) c.with_decision-sofar.ensures.bounds (omega (arith, arms_with_most c.in-Resolved.decision.permit c.loop-left.sofar.arms, c.with_decision-sofar.ensures.arms_are)) (λ r t buf out e.
    arm_goes _ _ _ _ _ _ _ t _ r _ _ _ _ _ _ _ buf out _ _ (omega (arith, c.loop-left-test.true)) (rw c.requires.5 at c.reduce_arm-arm.ensures) _ _ _ _ (search rules)
    (λ k x s h n. sofar_known _ _ _ _ _ c.loop-left.buf c.reduce_arm-arm.new.buf c.loop-left.front c.reduce_arm-arm.new.front c.loop-left.out c.reduce_arm-arm.new.out _ _ _ c.tail_from-behind.ensures c.tail_from-from.ensures inv.bounds (search rules) (search rules) (search rules) (search rules)
    _ _ _ _ c.with_decision-sofar.ensures (search rules) (search rules) k x s (rw c.in-Resolved.is at h) n)
    (rw c.in-Resolved.is (sym c.stops.ensures ∙ c.if-stops.false)) e)

pub reduce_permits_first-returns : goal.reduce_permits_first-returns
reduce_permits_first-returns t c =
    c.loop-left.invariant.goes _ _ _ _ (arms_end _ _ _ _ _ _ _ _ _ _ _ _ _ _ _ (omega (arith, c.loop-left-test.false)) c.end_list.ensures)

pub reduce_policy-returns-then-words-at : goal.reduce_policy-returns-then-words-at
reduce_policy-returns-then-words-at t c =
    rw (c.resolved.ensures, c.denied.ensures)
    (⊎_elim (λ w. reduce_end _ _ _ _ _ _ _ _ _ _ refl (omega arith) w) (λ w. reduce_limit _ _ _ _ _ _ _ _ _ _ refl (omega arith) w.1) c.then-words-at.either)

pub reduce_policy-reduce_list-requires : goal.reduce_policy-reduce_list-requires
reduce_policy-reduce_list-requires t c = let few = all_below _ _ (sym c.in-All.is ∙ c.policy_head.ensures) in search rules

pub reduce_policy-reduce_list-requires-in-Any : goal.reduce_policy-reduce_list-requires-in-Any
reduce_policy-reduce_list-requires-in-Any t c = let few = any_below _ _ (sym c.in-Any.is ∙ c.policy_head.ensures) in search rules

pub reduce_policy-returns-in-Grant : goal.reduce_policy-returns-in-Grant
reduce_policy-returns-in-Grant t c =
    by_head _ _ _ _ _ _ _ _ _ _ (Grant _ _ _) c.if-depth-eq0.false (sym c.in-Grant.is ∙ c.policy_head.ensures) (c.reduce_grant.ensures _ _ _ _ _)

pub reduce_policy-returns-in-All : goal.reduce_policy-returns-in-All
reduce_policy-returns-in-All t c = by_head _ _ _ _ _ _ _ _ _ _ (All _) c.if-depth-eq0.false (sym c.in-All.is ∙ c.policy_head.ensures) c.reduce_list.ensures

pub reduce_policy-returns-in-Any : goal.reduce_policy-returns-in-Any
reduce_policy-returns-in-Any t c = by_head _ _ _ _ _ _ _ _ _ _ (Any _) c.if-depth-eq0.false (sym c.in-Any.is ∙ c.policy_head.ensures) c.reduce_list-in-Any.ensures

pub reduce_policy-returns-in-OrElse : goal.reduce_policy-returns-in-OrElse
reduce_policy-returns-in-OrElse t c = by_head _ _ _ _ _ _ _ _ _ _ OrElse c.if-depth-eq0.false (sym c.in-OrElse.is ∙ c.policy_head.ensures) c.reduce_or_else.ensures

pub reduce_policy-returns-in_default : goal.reduce_policy-returns-in_default
reduce_policy-returns-in_default t c = reduce_constant _ _ _ _ _ _ _ _ _ _ _ (omega (arith, c.if-words-at.false)) c.if-depth-eq0.false c.policy_head.ensures (opened c.in_default.in_default-own.keys5) c.reduce_constant.ensures

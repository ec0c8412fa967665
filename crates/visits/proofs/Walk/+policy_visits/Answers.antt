-- The cycle of calls of `visits::Walk::visit_policy` meets its contracts: a policy by its head; arms by a loop, whose invariant is that what answers for the
-- arms that are left answers for all. The measure is the depth, and within a level the list rules, then an arm, then the policy. Assumes nothing.
use mathlib.Core.Logic.{inl, inr}
use mathlib.Core.Path.{◌≡◌, refl, sym, ◌∙◌, ap}
use Prim.Native.Nat.{◌+◌, ◌-◌}
use native.Mathlib.Omega.{arith}
use Rattle.model.specs.Facts.{table_of}
use Rattle.visits.proofs.Policies.{no_words, no_levels, no_nodes, permit_counted, permit_word_counted, deny_counted, grant_counted, all_none, all_counted, any_counted, or_counted, no_permit_trace, no_deny_trace, bad_kind, bad_field, policies_none, policies_over, policies_more, policies_stop, any_none, any_over, any_more}
use Rattle.visits.proofs.Walk.+policy_visits.Goals as goal
use Rattle.visits.proofs.Walk.+policy_visits.Goals.{visit_arm-then-self-at-via-then-self-at, visit_arm-then-self-at-via-else-self-at+then-depth-eq0, visit_arm-then-self-at-via-else-self-at+else-depth-eq0+then-self-nodes, visit_policy-then-self-at-via-then-self-at, visit_policy-then-self-at-via-else-self-at+then-depth-eq0, visit_policy-then-self-at-via-else-self-at+else-depth-eq0+then-self-nodes}

pub visit_arm-returns-then-self-at : goal.visit_arm-returns-then-self-at
visit_arm-returns-then-self-at t c =
    let a = c.args in
    let s = a.self.now in
    elim c.then-self-at.branch [
      | visit_arm-then-self-at-via-then-self-at w ↦ no_words (table_of s.facts.now) s.words.now a.at s.allowance a.nodes a.depth _ w.if-self-at.true
      | visit_arm-then-self-at-via-else-self-at+then-depth-eq0 w ↦ no_levels (table_of s.facts.now) s.words.now a.at s.allowance a.nodes a.depth _ w.if-self-at.false w.if-depth-eq0.true
      | visit_arm-then-self-at-via-else-self-at+else-depth-eq0+then-self-nodes w ↦ no_nodes (table_of s.facts.now) s.words.now a.at s.allowance a.nodes a.depth w.if-self-nodes.true
    ]

pub visit_arm-returns-then-self-at-eq-PERMIT : goal.visit_arm-returns-then-self-at-eq-PERMIT
visit_arm-returns-then-self-at-eq-PERMIT t c =
    let a = c.args in
    let s = a.self.now in
    permit_word_counted (table_of s.facts.now) s.words.now a.at s.allowance a.nodes a.depth c.if-self-at.false c.if-depth-eq0.false _ c.if-self-at-eq-PERMIT.true c.counted.ensures

pub visit_arm-visit_plain-requires : goal.visit_arm-visit_plain-requires
visit_arm-visit_plain-requires t c = (sym c.plain_grant.ensures ∙ c.if-plain_grant.true, omega arith)

pub visit_policy-returns-then-self-at : goal.visit_policy-returns-then-self-at
visit_policy-returns-then-self-at t c =
    let a = c.args in
    let s = a.self.now in
    elim c.then-self-at.branch [
      | visit_policy-then-self-at-via-then-self-at w ↦ no_words (table_of s.facts.now) s.words.now a.at s.allowance a.nodes a.depth _ w.if-self-at.true
      | visit_policy-then-self-at-via-else-self-at+then-depth-eq0 w ↦ no_levels (table_of s.facts.now) s.words.now a.at s.allowance a.nodes a.depth _ w.if-self-at.false w.if-depth-eq0.true
      | visit_policy-then-self-at-via-else-self-at+else-depth-eq0+then-self-nodes w ↦ no_nodes (table_of s.facts.now) s.words.now a.at s.allowance a.nodes a.depth w.if-self-nodes.true
    ]

pub visit_policy-returns-in-Permit : goal.visit_policy-returns-in-Permit
visit_policy-returns-in-Permit t c =
    let a = c.args in
    let s = a.self.now in
    permit_counted (table_of s.facts.now) s.words.now a.at s.allowance a.nodes a.depth c.if-self-at.false c.if-depth-eq0.false _ _ c.in-Permit.ensures c.counted.ensures

pub visit_policy-returns-in-Deny : goal.visit_policy-returns-in-Deny
visit_policy-returns-in-Deny t c =
    let a = c.args in
    let s = a.self.now in
    deny_counted (table_of s.facts.now) s.words.now a.at s.allowance a.nodes a.depth c.if-self-at.false c.if-depth-eq0.false _ c.in-Deny.ensures c.counted-in-Deny.ensures

pub visit_policy-returns-in-Grant : goal.visit_policy-returns-in-Grant
visit_policy-returns-in-Grant t c =
    let a = c.args in
    let s = a.self.now in
    grant_counted (table_of s.facts.now) s.words.now a.at s.allowance a.nodes a.depth c.if-self-at.false c.if-depth-eq0.false _ _ _ _ _ c.in-Grant.ensures (ap (λ n. a.at + n) c.before_condition_in-before.ensures) c.visit_condition.ensures

pub visit_policy-returns-in-All-eq0 : goal.visit_policy-returns-in-All-eq0
visit_policy-returns-in-All-eq0 t c =
    let a = c.args in
    let s = a.self.now in
    all_none (table_of s.facts.now) s.words.now a.at s.allowance a.nodes a.depth c.if-self-at.false c.if-depth-eq0.false _ _ c.in-All-eq0.ensures (omega arith) c.counted-in-All-eq0.ensures

pub visit_policy-returns-in-All : goal.visit_policy-returns-in-All
visit_policy-returns-in-All t c =
    let a = c.args in
    let s = a.self.now in
    all_counted (table_of s.facts.now) s.words.now a.at s.allowance a.nodes a.depth c.if-self-at.false c.if-depth-eq0.false _ _ c.in-All.ensures c.in-All.arms-test.1 c.visit_policies.ensures

pub visit_policy-returns-in-Any : goal.visit_policy-returns-in-Any
visit_policy-returns-in-Any t c =
    let a = c.args in
    let s = a.self.now in
    any_counted (table_of s.facts.now) s.words.now a.at s.allowance a.nodes a.depth c.if-self-at.false c.if-depth-eq0.false _ _ c.in-Any.ensures c.visit_any.ensures

pub visit_policy-returns-in-OrElse : goal.visit_policy-returns-in-OrElse
visit_policy-returns-in-OrElse t c =
    let a = c.args in
    let s = a.self.now in
    or_counted (table_of s.facts.now) s.words.now a.at s.allowance a.nodes a.depth c.if-self-at.false c.if-depth-eq0.false _ c.in-OrElse.ensures c.visit_policies-in-OrElse.ensures

pub visit_policy-returns-in-PermitWithTrace : goal.visit_policy-returns-in-PermitWithTrace
visit_policy-returns-in-PermitWithTrace t c =
    let a = c.args in
    let s = a.self.now in
    elim c.in-PermitWithTrace.is [
      | inl e ↦ no_permit_trace (table_of s.facts.now) s.words.now a.at s.allowance a.nodes a.depth c.if-self-at.false c.if-depth-eq0.false _ _ _ (sym e.2 ∙ c.policy_head.ensures)
      | inr d ↦ elim d [
        | inl e ↦ no_deny_trace (table_of s.facts.now) s.words.now a.at s.allowance a.nodes a.depth c.if-self-at.false c.if-depth-eq0.false _ _ _ (sym e.2 ∙ c.policy_head.ensures)
        | inr b ↦ elim b [
          | inl e ↦ bad_kind (table_of s.facts.now) s.words.now a.at s.allowance a.nodes a.depth c.if-self-at.false c.if-depth-eq0.false _ (sym e ∙ c.policy_head.ensures)
          | inr e ↦ bad_field (table_of s.facts.now) s.words.now a.at s.allowance a.nodes a.depth c.if-self-at.false c.if-depth-eq0.false _ (sym e ∙ c.policy_head.ensures)
        ]
      ]
    ]

pub visit_policies-loop-left-init : goal.visit_policies-loop-left-init
visit_policies-loop-left-init t c = record { goes = λ r k. k }

pub visit_policies-returns-in_err-arm : goal.visit_policies-returns-in_err-arm
visit_policies-returns-in_err-arm t c =
    let a = c.args in
    let s = a.self.now in
    let loop = c.loop-left in
    rw c.from_residual.ensures (loop.invariant.goes _ (policies_over a.stop (table_of s.facts.now) s.words.now a.depth s.allowance loop.next loop.left loop.count (λ z. omega arith) (rw c.in_err-arm.was at c.visit_arm.ensures)))

pub visit_policies-returns-then-arm-stop : goal.visit_policies-returns-then-arm-stop
visit_policies-returns-then-arm-stop t c =
    let a = c.args in
    let s = a.self.now in
    let loop = c.loop-left in
    loop.invariant.goes _ (policies_stop a.stop (table_of s.facts.now) s.words.now a.depth s.allowance loop.next loop.left loop.count (λ z. omega arith) _ _ (rw c.in_ok-arm.was at c.visit_arm.ensures) c.if-arm-stop.true _ c.skip_policies-end.ensures c.counted.ensures)

pub visit_policies-loop-left-preserved : goal.visit_policies-loop-left-preserved
visit_policies-loop-left-preserved t c =
    let a = c.args in
    let s = a.self.now in
    let loop = c.loop-left in
    record { goes = λ r k. loop.invariant.goes r (policies_more a.stop (table_of s.facts.now) s.words.now a.depth s.allowance loop.next loop.left loop.count (λ z. omega arith) _ r (rw c.in_ok-arm.was at c.visit_arm.ensures) c.if-arm-stop.false k) }

pub visit_policies-returns : goal.visit_policies-returns
visit_policies-returns t c =
    let a = c.args in
    let s = a.self.now in
    let loop = c.loop-left in
    loop.invariant.goes _ (policies_none a.stop (table_of s.facts.now) s.words.now a.depth s.allowance loop.next loop.left loop.count _ (omega arith) c.counted-2.ensures)

pub visit_any-loop-init : goal.visit_any-loop-init
visit_any-loop-init t c = record { goes = λ r k. let e : c.args.arms - 0 ≡ c.args.arms = omega arith in rw e at k }

pub visit_any-returns-in_err-arm : goal.visit_any-returns-in_err-arm
visit_any-returns-in_err-arm t c =
    let a = c.args in
    let s = a.self.now in
    let loop = c.loop in
    rw c.from_residual.ensures (loop.invariant.goes _ (any_over (table_of s.facts.now) s.words.now a.depth s.allowance loop.permits loop.next (a.arms - loop.counter) loop.count (λ z. omega arith) (rw c.in_err-arm.was at c.visit_arm.ensures)))

pub visit_any-loop-preserved : goal.visit_any-loop-preserved
visit_any-loop-preserved t c =
    let a = c.args in
    let s = a.self.now in
    let loop = c.loop in
    record { goes = λ r k. loop.invariant.goes r (any_more (table_of s.facts.now) s.words.now a.depth s.allowance loop.permits loop.next (a.arms - loop.counter) loop.count (λ z. omega arith) _ r (rw c.in_ok-arm.was at c.visit_arm.ensures) _ refl (let e : a.arms - loop.counter - 1 ≡ a.arms - (loop.counter + 1) = omega arith in rw e k)) }

pub visit_any-returns : goal.visit_any-returns
visit_any-returns t c =
    let a = c.args in
    let s = a.self.now in
    let loop = c.loop in
    loop.invariant.goes _ (any_none (table_of s.facts.now) s.words.now a.depth s.allowance loop.permits loop.next (a.arms - loop.counter) loop.count _ (omega arith) c.counted.ensures)

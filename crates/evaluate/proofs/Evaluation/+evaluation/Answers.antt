-- The cycle of calls of `evaluate::Evaluation::eval_policy` meets its contracts: a policy by its head; the arms of a list by a loop, whose invariant is that
-- what answers for the arms that are left answers for all. The measure is the depth, and within a level the list rule, then an arm, then the policy.
-- Assumes nothing.
use mathlib.Core.Path.{◌≡◌, refl}
use Prim.Native.Nat.{◌+◌, ◌-◌}
use native.Mathlib.Omega.{arith}
use borrow.Author.Tests.{not-true, not-false}
use Rattle.evaluate.proofs.Folds.{lent_folds}
use Rattle.evaluate.proofs.Evaluating.{by_head, eval_end, eval_limit, eval_bad, eval_permit, eval_permit_word, eval_grant_word, eval_deny, permit_stored, deny_stored}
use Rattle.evaluate.proofs.Arms.{arms_none, arms_passed, all_more, all_stop, any_more, all_node, any_node, or_permits, or_denies}
use Rattle.evaluate.proofs.Evaluation.+evaluation.Goals as goal
use Rattle.evaluate.proofs.Evaluation.+evaluation.Goals.{eval_policy-then-self-at-via-then-self-at, eval_policy-then-self-at-via-else-self-at+then-depth-eq0}

pub eval_all-loop-left-init : goal.eval_all-loop-left-init
eval_all-loop-left-init t c = record { buf_long = refl; few = tt; goes = λ r t end e. all_node c.requires.0 e }

pub eval_all-returns-then-not-decision : goal.eval_all-returns-then-not-decision
eval_all-returns-then-not-decision t c =
    c.loop-left.invariant.goes _ _ _
    (all_stop (λ z. omega arith) c.eval_arm-arm.ensures (not-true _ c.if-not-decision.true)
    (arms_passed c.eval_arm-arm.ensures.few c.skip_policies.ensures))

pub eval_all-loop-left-preserved : goal.eval_all-loop-left-preserved
eval_all-loop-left-preserved t c =
    record {
      buf_long = omega arith;
      few = c.meet_next-folded.ensures.few;
      goes = λ r t end e. c.loop-left.invariant.goes r t end
          (all_more (λ z. omega arith) c.eval_arm-arm.ensures (not-false _ c.if-not-decision.false)
          (lent_folds _ (omega arith) c.loop-left.invariant.few (omega arith) c.meet_next-folded.ensures.folds) e);
    }

pub eval_all-returns : goal.eval_all-returns
eval_all-returns t c =
    rw (c.unwrap_or.ensures, c.denied.ensures) (c.loop-left.invariant.goes _ _ _ (arms_none (omega arith) c.loop-left.invariant.few refl (λ l. refl)))

pub eval_any-loop-init : goal.eval_any-loop-init
eval_any-loop-init t c =
    record {
      buf_long = refl;
      few = tt;
      goes = λ r t end e. let all : c.args.arms - 0 ≡ c.args.arms = omega arith in any_node c.requires.0 (rw all at e);
    }

pub eval_any-loop-preserved : goal.eval_any-loop-preserved
eval_any-loop-preserved t c =
    record {
      buf_long = omega arith;
      few = c.join_next-folded.ensures.few;
      goes = λ r t end e. let less : c.args.arms - (c.loop.counter + 1) ≡ c.args.arms - c.loop.counter - 1 = omega arith in c.loop.invariant.goes r t end
          (any_more (λ z. omega arith) c.eval_arm-arm.ensures
          (lent_folds _ (omega arith) c.loop.invariant.few (omega arith) c.join_next-folded.ensures.folds) (rw less at e));
    }

pub eval_any-returns : goal.eval_any-returns
eval_any-returns t c =
    rw (c.unwrap_or.ensures, c.denied.ensures) (c.loop.invariant.goes _ _ _ (arms_none (omega arith) c.loop.invariant.few refl (λ l. refl)))

pub eval_arm-returns-then-self-at : goal.eval_arm-returns-then-self-at
eval_arm-returns-then-self-at t c = rw c.denied.ensures (eval_end c.if-self-at.true)

pub eval_arm-returns-then-word-eq-PERMIT : goal.eval_arm-returns-then-word-eq-PERMIT
eval_arm-returns-then-word-eq-PERMIT t c =
    rw c.permitted.ensures (eval_permit_word _ _ _ _ _ _ _ c.if-self-at.false c.if-word-eq-PERMIT.true)

pub eval_arm-returns-then-depth-ne0 : goal.eval_arm-returns-then-depth-ne0
eval_arm-returns-then-depth-ne0 t c =
    eval_grant_word c.if-self-at.false c.if-depth-ne0.true (λ shape n o. c.eval_grant.ensures _ shape n o _) c.if-word-eq-KIND_GRANT.true

pub eval_or_else-returns-then-decision : goal.eval_or_else-returns-then-decision
eval_or_else-returns-then-decision t c =
    or_permits c.requires.0 c.eval_policy-primary.ensures c.if-decision.true c.skip_policies.ensures

pub eval_or_else-returns : goal.eval_or_else-returns
eval_or_else-returns t c =
    or_denies c.requires.0 c.eval_policy-primary.ensures c.if-decision.false c.eval_policy.ensures

pub eval_policy-returns-then-self-at : goal.eval_policy-returns-then-self-at
eval_policy-returns-then-self-at t c =
    rw c.denied.ensures
    (elim c.then-self-at.branch [
      | eval_policy-then-self-at-via-then-self-at w ↦ eval_end w.if-self-at.true
      | eval_policy-then-self-at-via-else-self-at+then-depth-eq0 w ↦ eval_limit w.if-depth-eq0.true
    ])

pub eval_policy-returns-in-Permit : goal.eval_policy-returns-in-Permit
eval_policy-returns-in-Permit t c = rw c.permitted.ensures (by_head c.if-depth-eq0.false c.in-Permit.is c.policy_head.ensures (eval_permit c.if-self-at.false refl))

pub eval_policy-returns-in-Deny : goal.eval_policy-returns-in-Deny
eval_policy-returns-in-Deny t c = rw c.denied-in-Deny.ensures (by_head c.if-depth-eq0.false c.in-Deny.is c.policy_head.ensures (eval_deny c.if-self-at.false refl))

pub eval_policy-returns-in-Grant : goal.eval_policy-returns-in-Grant
eval_policy-returns-in-Grant t c = by_head c.if-depth-eq0.false c.in-Grant.is c.policy_head.ensures (c.eval_grant.ensures _ _ _ _ _)

pub eval_policy-returns-in-All : goal.eval_policy-returns-in-All
eval_policy-returns-in-All t c = by_head c.if-depth-eq0.false c.in-All.is c.policy_head.ensures c.eval_all.ensures

pub eval_policy-returns-in-Any : goal.eval_policy-returns-in-Any
eval_policy-returns-in-Any t c = by_head c.if-depth-eq0.false c.in-Any.is c.policy_head.ensures c.eval_any.ensures

pub eval_policy-returns-in-OrElse : goal.eval_policy-returns-in-OrElse
eval_policy-returns-in-OrElse t c = by_head c.if-depth-eq0.false c.in-OrElse.is c.policy_head.ensures c.eval_or_else.ensures

pub eval_policy-returns-in-PermitWithTrace : goal.eval_policy-returns-in-PermitWithTrace
eval_policy-returns-in-PermitWithTrace t c =
    rw (c.stored.ensures, c.permitted_by.ensures) (by_head c.if-depth-eq0.false c.in-PermitWithTrace.is c.policy_head.ensures (permit_stored c.if-self-at.false (omega arith)))

pub eval_policy-returns-in-DenyWithTrace : goal.eval_policy-returns-in-DenyWithTrace
eval_policy-returns-in-DenyWithTrace t c =
    rw (c.stored-in-DenyWithTrace.ensures, c.denied_by.ensures) (by_head c.if-depth-eq0.false c.in-DenyWithTrace.is c.policy_head.ensures (deny_stored c.if-self-at.false (omega arith)))

pub eval_policy-returns-in-BadKind : goal.eval_policy-returns-in-BadKind
eval_policy-returns-in-BadKind t c = rw c.denied-in-BadKind.ensures (by_head c.if-depth-eq0.false refl c.policy_head.ensures (eval_bad c.if-self-at.false c.in-BadKind.is))

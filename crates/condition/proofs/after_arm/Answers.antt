-- `condition::after_arm` meets its contract: a Not, one with arms after it, an arm that decides, or the last arm. Assumes nothing.
use borrow.Author.Tests.{not-true, not-false}
use Rattle.condition.proofs.Walking.{settles_not, settles_decided, settles_ended, settles_more}
use Rattle.condition.proofs.after_arm.Goals as goal
use Rattle.condition.proofs.after_arm.Goals.{else-value-stop-via-then-value-stop+else-left-ne0, else-value-stop-via-else-value-stop}

pub returns-in-Not : goal.returns-in-Not
returns-in-Not c = rw c.in-Not.is (settles_not _ _ _ _)

pub returns-then-left-ne0 : goal.returns-then-left-ne0
returns-then-left-ne0 c = rw c.in-Arms.is (settles_more _ _ _ _ _ (not-true _ c.if-value-stop.true) c.if-left-ne0.true)

pub returns-else-value-stop : goal.returns-else-value-stop
returns-else-value-stop c =
    rw c.in-Arms.is
    (elim c.else-value-stop.branch [
      | else-value-stop-via-then-value-stop+else-left-ne0 w ↦ settles_ended _ _ _ _ _ _ _ c.skip_conditions.ensures w.if-left-ne0.false
      | else-value-stop-via-else-value-stop w ↦ settles_decided _ _ _ _ _ _ _ c.skip_conditions.ensures (not-false _ w.if-value-stop.false)
    ])

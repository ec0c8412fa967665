-- `evaluate::meet_next` meets its contract: by whether there was an arm before, and by which of the two permits. Assumes nothing.
use mathlib.Core.Path.{refl}
use Rattle.evaluate.proofs.Folds.{first_folds, met_permits, met_first, met_deny}
use Rattle.evaluate.proofs.meet_next.Goals as goal
use Rattle.evaluate.proofs.meet_next.Goals.{else-earlier-via-then-earlier+else-arm, else-earlier-via-else-earlier}

pub returns-in_default-clause-folds : goal.returns-in_default-clause-folds
returns-in_default-clause-folds c = rw c.in_default.is (first_folds (λ d. refl) c.requires.1 c.keep.ensures)

pub returns-then-arm-clause-folds : goal.returns-then-arm-clause-folds
returns-then-arm-clause-folds c =
    rw c.in-Some.is (met_permits _ c.if-earlier.true c.if-arm.true (c.meet.ensures.folds _ (rw (c.products.ensures, c.products-then-arm.ensures) at c.by-both.ensures)))

pub returns-clause-folds : goal.returns-clause-folds
returns-clause-folds c =
    rw c.in-Some.is
    (elim c.else-earlier.branch [
      | else-earlier-via-then-earlier+else-arm w ↦ met_deny _ c.requires.1 w.if-arm.false c.keep-2.ensures
      | else-earlier-via-else-earlier w ↦ met_first _ c.requires.1 w.if-earlier.false c.keep-2.ensures
    ])

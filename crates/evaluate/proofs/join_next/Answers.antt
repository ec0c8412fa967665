-- `evaluate::join_next` meets its contract: by whether there was an arm before, and by which of the two permits. Assumes nothing.
use mathlib.Core.Path.{refl}
use borrow.Author.Tests.{not-true, not-false}
use Rattle.decision.specs.Room.{Few}
use Rattle.evaluate.proofs.Folds.{first_folds, joined_deny, joined_permits, joined_first}
use Rattle.evaluate.proofs.join_next.Goals as goal

pub returns-in_default-clause-folds : goal.returns-in_default-clause-folds
returns-in_default-clause-folds c = rw c.in_default.is (first_folds (λ d. refl) c.requires.1 c.keep.ensures)

pub returns-then-not-arm-clause-folds : goal.returns-then-not-arm-clause-folds
returns-then-not-arm-clause-folds c =
    let few : Few c.in-Some.earlier = rw c.in-Some.is at c.requires.0 in
    rw c.in-Some.is (joined_deny _ few (not-true _ c.if-not-arm.true))

pub returns-then-not-earlier-clause-folds : goal.returns-then-not-earlier-clause-folds
returns-then-not-earlier-clause-folds c =
    rw c.in-Some.is (joined_first _ c.requires.1 (not-true _ c.if-not-earlier.true) (not-false _ c.if-not-arm.false) c.keep-then-not-earlier.ensures)

pub returns-clause-folds : goal.returns-clause-folds
returns-clause-folds c =
    rw c.in-Some.is (joined_permits _ (not-false _ c.if-not-earlier.false) (not-false _ c.if-not-arm.false) (c.join.ensures.folds _ (rw (c.products.ensures, c.products-2.ensures) at c.by-either.ensures)))

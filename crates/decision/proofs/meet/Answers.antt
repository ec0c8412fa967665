-- `decision::meet` meets its contract: by which of the two the meet is. Assumes nothing.
use native.Mathlib.Omega.{arith}
use mathlib.Core.Path.{sym, ◌∙◌}
use Rattle.decision.proofs.Folding.{meet_first, meet_second, meet_neither}
use Rattle.decision.proofs.meet.Goals as goal

pub returns-then-same_outcome-clause-folds : goal.returns-then-same_outcome-clause-folds
returns-then-same_outcome-clause-folds c = λ g e. meet_first g _ _ _ _ _ e (omega arith) (sym c.same_outcome.ensures ∙ c.if-same_outcome.true)

pub returns-then-same_outcome-2-clause-folds : goal.returns-then-same_outcome-2-clause-folds
returns-then-same_outcome-2-clause-folds c =
    λ g e. meet_second g _ _ _ _ _ e _ _ (omega arith) c.keep.ensures (sym c.same_outcome.ensures ∙ c.if-same_outcome.false) (sym c.same_outcome-2.ensures ∙ c.if-same_outcome-2.true)

pub returns-clause-folds : goal.returns-clause-folds
returns-clause-folds c = λ g e. meet_neither g _ _ _ _ _ e _ c.permitted.ensures (sym c.same_outcome.ensures ∙ c.if-same_outcome.false) (sym c.same_outcome-2.ensures ∙ c.if-same_outcome-2.false)

-- `decision::join` meets its contract: by which of the two the join is. Assumes nothing.
use mathlib.Core.Path.{sym, ◌∙◌}
use native.Mathlib.Omega.{arith}
use Rattle.decision.proofs.Folding.{join_first, join_second, join_both, join_unobliged, join_neither}
use Rattle.decision.proofs.join.Goals as goal

pub returns-then-not-same_outcome-clause-folds : goal.returns-then-not-same_outcome-clause-folds
returns-then-not-same_outcome-clause-folds c =
    λ g e.
    join_first g _ _ _ _ _ e (omega arith) (sym c.same_outcome.ensures ∙ c.if-same_outcome.true)
    (sym c.same_outcome-then-same_outcome.ensures ∙ c.if-not-same_outcome.true)

pub returns-then-unobliged-clause-folds : goal.returns-then-unobliged-clause-folds
returns-then-unobliged-clause-folds c =
    λ g e.
    join_unobliged g _ _ _ _ _ e (omega arith) (sym c.same_outcome.ensures ∙ c.if-same_outcome.true)
    (sym c.same_outcome-then-same_outcome.ensures ∙ c.if-not-same_outcome.false) (c.unobliged.ensures c.if-unobliged.true)

pub returns-then-same_outcome-clause-folds : goal.returns-then-same_outcome-clause-folds
returns-then-same_outcome-clause-folds c =
    λ g e.
    join_both g _ _ _ _ _ e _ _ _ c.with_united.ensures c.unite-united.ensures (sym c.same_outcome.ensures ∙ c.if-same_outcome.true)
    (sym c.same_outcome-then-same_outcome.ensures ∙ c.if-not-same_outcome.false)

pub returns-then-same_outcome-2-clause-folds : goal.returns-then-same_outcome-2-clause-folds
returns-then-same_outcome-2-clause-folds c =
    λ g e.
    join_second g _ _ _ _ _ e _ _ (omega arith) c.keep.ensures (sym c.same_outcome.ensures ∙ c.if-same_outcome.false)
    (sym c.same_outcome-2.ensures ∙ c.if-same_outcome-2.true)

pub returns-clause-folds : goal.returns-clause-folds
returns-clause-folds c =
    λ g e.
    join_neither g _ _ _ _ _ e _ _ _ c.with_united-2.ensures c.unite-united-2.ensures (sym c.same_outcome.ensures ∙ c.if-same_outcome.false)
    (sym c.same_outcome-2.ensures ∙ c.if-same_outcome-2.false)

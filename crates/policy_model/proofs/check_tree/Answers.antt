-- `policy_model::check_tree` meets its contract. The loop's invariant: what is asked of the nodes that are due, at this level and then at those above,
-- is what is asked of the tree. The measure is what is left of the words, and the levels to go up. Assumes nothing.
use mathlib.Core.Path.{◌∙◌}
use native.Mathlib.Omega.{arith}
use borrow.Author.Rules.{rules}
use lib.ListN.{length-set}
use Rattle.policy_model.proofs.Checking.{passed_on}
use Rattle.policy_model.proofs.Levels.{one_due, passed, opened, turned_back_lem, level_done, all_done}
use Rattle.policy_model.proofs.check_tree.Goals as goal

pub loop-left-init : goal.loop-left-init
loop-left-init g c = (one_due (c.requires.lists) _ _ _, omega arith, search rules)

pub returns-then-level-eq0 : goal.returns-then-level-eq0
returns-then-level-eq0 g c = all_done (c.requires.lists) _ _ _ _ _ c.if-left-eq0.true c.if-level-eq0.true ∙ c.loop-left.invariant.0

pub loop-left-preserved-then-left-eq0 : goal.loop-left-preserved-then-left-eq0
loop-left-preserved-then-left-eq0 g c = (
  level_done (c.requires.lists) _ _ _ _ _ c.if-left-eq0.true c.if-level-eq0.false ∙ c.loop-left.invariant.0,
  omega arith,
  c.loop-left.invariant.2,
)

pub loop-left-preserved-in-Leaf : goal.loop-left-preserved-in-Leaf
loop-left-preserved-in-Leaf g c =
    let s = rw c.in-Leaf.is at c.in_ok-after.ensures in
    (passed (c.requires.lists) _ _ _ _ _ _ c.if-left-eq0.false s.0 ∙ c.loop-left.invariant.0, c.loop-left.invariant.1, c.loop-left.invariant.2)

pub loop-left-preserved : goal.loop-left-preserved
loop-left-preserved g c =
    let s = rw c.in-Arms.is at c.in_ok-after.ensures in (
      opened (c.requires.lists) _ _ _ _ _ c.in-Arms.count c.if-left-eq0.false (omega arith) s.0 ∙ c.loop-left.invariant.0,
      omega arith,
      simp length-set c.loop-left.invariant.2,
    )

pub returns-in_err-after : goal.returns-in_err-after
returns-in_err-after g c =
    passed_on _ _ c.from_residual.ensures.1 ∙ turned_back_lem (c.requires.lists) _ _ _ _ _ _ c.if-left-eq0.false c.in_err-after.ensures ∙ c.loop-left.invariant.0

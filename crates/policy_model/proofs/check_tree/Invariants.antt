-- `policy_model::check_tree` meets its contract. The loop's invariant: what is asked of the nodes that are due, at this level and then at those above,
-- is what is asked of the tree. The measure is what is left of the words, and the levels to go up. Assumes nothing.
use mathlib.Core.Path.{◌≡◌}
use Prim.Native.Nat.{◌+◌, ◌-◌, ◌*◌, ◌≤◌}
use lib.ListN.{length}
use Rattle.policy_model.proofs.Levels.{Due}
use Rattle.policy_model.proofs.check_tree.Given as goal

abbrev pub invariant-loop-left : goal.invariant-loop-left
invariant-loop-left g l = (Due (g.T.Tree.all l.tree) l.depth l.above l.level l.left l.next ≡ g.T.Tree.one l.tree l.depth l.at) × (l.level ≤ l.depth) × (length l.above ≡ 32)

abbrev pub decreases-loop-left : goal.decreases-loop-left
decreases-loop-left g l = 2 * (length (g.T.Tree.words l.tree) - l.next) + l.level

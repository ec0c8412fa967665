-- `pack::Tree::put_nodes` meets its contract: one node more in each turn. Assumes nothing.
use Rattle.std.proofs.Common.{◌-◌, length}
use Rattle.pack.proofs.Putting.{Nodes}
use Rattle.pack.proofs.Tree.put_nodes.Given as goal

abbrev pub invariant-loop-at : goal.invariant-loop-at
invariant-loop-at l = Nodes l.words l.self.from l.initial.out l.fn.from l.at l.out l.to

abbrev pub decreases-loop-at : goal.decreases-loop-at
decreases-loop-at l = length l.words - l.at

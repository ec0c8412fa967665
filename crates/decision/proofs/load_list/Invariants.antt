-- `decision::load_list` meets its contract: one field more in each turn. Assumes nothing.
use mathlib.Core.Path.{◌≡◌}
use lib.ListN.{take, drop}
use Rattle.decision.specs.Nodes.{obligation_fields}
use Rattle.decision.proofs.load_list.Given as goal

abbrev pub invariant-loop-i : goal.invariant-loop-i
invariant-loop-i l = take l.i l.out ≡ obligation_fields l.i (drop 2 l.node)

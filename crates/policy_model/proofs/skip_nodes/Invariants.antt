-- `policy_model::skip_nodes` meets its contract: the loop's invariant is that the open nodes end where all of them do; the measure is what is left of the
-- words. Assumes nothing.
use mathlib.Core.Path.{◌≡◌}
use Prim.Native.Nat.{◌+◌, ◌-◌, ◌≤◌}
use lib.ListN.{length, drop}
use Rattle.policy_model.specs.Span.{span}
use Rattle.policy_model.proofs.skip_nodes.Given as goal

abbrev pub invariant-loop-nodes : goal.invariant-loop-nodes
invariant-loop-nodes l = (l.next + span (drop l.next l.words) 0 l.nodes ≡ l.at + span (drop l.at l.words) 0 l.count) × (l.next ≤ length l.words)

abbrev pub decreases-loop-nodes : goal.decreases-loop-nodes
decreases-loop-nodes l = length l.words - l.next

-- `required::collect_policy_facts` meets its contract: what answers for the nodes from `next` on answers for the policy. The words that are left fall with each turn. Assumes nothing.
use Prim.Native.Nat.{◌-◌}
use lib.ListN.{length}
use Rattle.required.specs.Arms.{Toward}
use Rattle.required.proofs.collect_policy_facts.Given as goal

abbrev pub invariant-loop-next : goal.invariant-loop-next
invariant-loop-next l = Toward l.words l.at l.initial.set l.next l.set

abbrev pub decreases-loop-next : goal.decreases-loop-next
decreases-loop-next l = length l.words - l.next

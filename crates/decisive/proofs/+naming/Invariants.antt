-- The proof of the cycle of calls {decisive-arm, decisive-arms, decisive-facts}. Assumes nothing.
use Rattle.model.specs.Facts.{table_of}
use Rattle.decisive.proofs.Arms.{Passing}
use Prim.Native.Nat.{◌+◌, ◌*◌}
use Rattle.decisive.proofs.+naming.Given as goal

abbrev pub decreases-decisive_arm : goal.decreases-decisive_arm
decreases-decisive_arm l = l.depth * 3 + 1

abbrev pub decreases-decisive_arms : goal.decreases-decisive_arms
decreases-decisive_arms l = l.depth * 3 + 2

abbrev pub decreases-decisive_facts : goal.decreases-decisive_facts
decreases-decisive_facts l = l.depth * 3

-- what answers for the arms that are left answers for them all
abbrev pub invariant-decisive_arms-loop-left : goal.invariant-decisive_arms-loop-left
invariant-decisive_arms-loop-left l = Passing (table_of l.walk.facts.now) l.stop l.walk.words.now l.depth l.at l.arms l.initial.out l.out l.next l.left l.count

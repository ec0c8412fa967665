-- The invariant of a list rule's loop: what answers for the arms that are left, behind those that are held, answers for all. The measure of the cycle of calls
-- is the depth, and within a level the arms, then an arm, then the condition. Assumes nothing.
use Prim.Native.Nat.{◌+◌, ◌*◌}
use Rattle.model.specs.Facts.{table_of}
use Rattle.consulted.specs.Listing.{held}
use Rattle.partial_condition.proofs.Arms.{Going}
use Rattle.partial_condition.proofs.+reduction.Given as goal

abbrev pub decreases-reduce_arm : goal.decreases-reduce_arm
decreases-reduce_arm l = l.depth * 3 + 1

abbrev pub decreases-reduce_arms : goal.decreases-reduce_arms
decreases-reduce_arms l = l.depth * 3 + 2

abbrev pub decreases-reduce_condition : goal.decreases-reduce_condition
decreases-reduce_condition l = l.depth * 3

abbrev pub invariant-reduce_arms-loop-left : goal.invariant-reduce_arms-loop-left
invariant-reduce_arms-loop-left l =
    Going l.stop (table_of l.walk.facts.now) l.walk.words.now l.at l.depth l.arms (held l.initial.consulted) (held l.consulted) l.out l.kept l.next l.left

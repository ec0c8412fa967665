-- The invariants of the list rules' loops: what answers for the arms that are left answers for all. The measure of the cycle of calls is the depth, and within
-- a level the choice of the list rule, then the rule, then the arm, then the policy. Assumes nothing.
use Prim.Native.Nat.{◌+◌, ◌*◌}
use lib.ListN.{length}
use Rattle.model.specs.Facts.{table_of}
use Rattle.outcome.specs.Carried.{carried}
use Rattle.consulted.specs.Listing.{held}
use Rattle.partial_policy.specs.Reducing.{order_of, ReducesBy, list_head}
use Rattle.partial_policy.proofs.Arms.{ArmsLeft, Going}
use Rattle.partial_policy.proofs.InOrder.{HeldLeft}
use Rattle.partial_policy.proofs.Reduction.+reduction.Given as goal

abbrev pub decreases-reduce_arm : goal.decreases-reduce_arm
decreases-reduce_arm l = l.depth * 4 + 1

abbrev pub decreases-reduce_in_order : goal.decreases-reduce_in_order
decreases-reduce_in_order l = l.depth * 4 + 2

abbrev pub decreases-reduce_list : goal.decreases-reduce_list
decreases-reduce_list l = l.depth * 4 + 3

abbrev pub decreases-reduce_or_else : goal.decreases-reduce_or_else
decreases-reduce_or_else l = l.depth * 4 + 1

abbrev pub decreases-reduce_permits_first : goal.decreases-reduce_permits_first
decreases-reduce_permits_first l = l.depth * 4 + 2

abbrev pub decreases-reduce_policy : goal.decreases-reduce_policy
decreases-reduce_policy l = l.depth * 4

abbrev pub invariant-reduce_permits_first-loop-left : goal.invariant-reduce_permits_first-loop-left
invariant-reduce_permits_first-loop-left l =
    Going
    (ArmsLeft l.kind (carried l.self.evaluation.outcomes) (table_of l.self.evaluation.walk.facts.now) l.self.evaluation.walk.words.now l.sofar l.buf l.front l.out l.next l.depth l.left (held l.consulted))
    (λ r t buf' out'. ReducesBy (carried l.self.evaluation.outcomes) (order_of l.self.order) (list_head l.kind l.arms) (table_of l.self.evaluation.walk.facts.now) l.self.evaluation.walk.words.now l.at l.depth (held l.initial.consulted) r t buf' (length l.initial.front) out')
    l.sofar
    l.arms
    l.left

abbrev pub invariant-reduce_in_order-loop-left : goal.invariant-reduce_in_order-loop-left
invariant-reduce_in_order-loop-left l =
    Going
    (HeldLeft l.kind (carried l.self.evaluation.outcomes) (table_of l.self.evaluation.walk.facts.now) l.self.evaluation.walk.words.now l.sofar l.buf (length l.initial.front) l.out l.next l.depth l.left (held l.consulted))
    (λ r t buf' out'. ReducesBy (carried l.self.evaluation.outcomes) (order_of l.self.order) (list_head l.kind l.arms) (table_of l.self.evaluation.walk.facts.now) l.self.evaluation.walk.words.now l.at l.depth (held l.initial.consulted) r t buf' (length l.initial.front) out')
    l.sofar
    l.arms
    l.left

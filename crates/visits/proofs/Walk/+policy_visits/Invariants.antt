-- The cycle of calls of `visits::Walk::visit_policy` meets its contracts: a policy by its head; arms by a loop, whose invariant is that what answers for the
-- arms that are left answers for all. The measure is the depth, and within a level the list rules, then an arm, then the policy. Assumes nothing.
use mathlib.Core.Bool.{false}
use Prim.Native.Nat.{◌+◌, ◌-◌, ◌*◌}
use Rattle.model.specs.Facts.{table_of}
use Rattle.visits.proofs.Policies.{CountsPs, CountsAny}
use Rattle.visits.proofs.Counting.{Going}
use Rattle.visits.proofs.Walk.+policy_visits.Given as goal

abbrev pub decreases-visit_any : goal.decreases-visit_any
decreases-visit_any l = l.depth * 3 + 2

abbrev pub decreases-visit_arm : goal.decreases-visit_arm
decreases-visit_arm l = l.depth * 3 + 1

abbrev pub decreases-visit_policies : goal.decreases-visit_policies
decreases-visit_policies l = l.depth * 3 + 2

abbrev pub decreases-visit_policy : goal.decreases-visit_policy
decreases-visit_policy l = l.depth * 3

abbrev pub invariant-visit_any-loop : goal.invariant-visit_any-loop
invariant-visit_any-loop l =
    Going
    (CountsAny (table_of l.self.facts.now) l.self.words.now l.next l.self.allowance l.count l.permits l.depth (l.arms - l.counter))
    (CountsAny (table_of l.self.facts.now) l.self.words.now l.at l.self.allowance l.nodes false l.depth l.arms)

abbrev pub invariant-visit_policies-loop-left : goal.invariant-visit_policies-loop-left
invariant-visit_policies-loop-left l =
    Going
    (CountsPs (table_of l.self.facts.now) l.self.words.now l.next l.self.allowance l.count l.stop l.depth l.left)
    (CountsPs (table_of l.self.facts.now) l.self.words.now l.at l.self.allowance l.nodes l.stop l.depth l.arms)

-- The cycle of calls of `visits::Walk::visit_condition` meets its contracts: a condition by its head; arms by a loop, whose invariant is that what answers for
-- the arms that are left answers for all. The measure is the depth, and within a level the list, then the condition. Assumes nothing.
use Prim.Native.Nat.{◌+◌, ◌*◌}
use Rattle.model.specs.Facts.{table_of}
use Rattle.visits.proofs.Conditions.{CountsCs}
use Rattle.visits.proofs.Counting.{Going}
use Rattle.visits.proofs.Walk.+condition_visits.Given as goal

abbrev pub decreases-visit_condition : goal.decreases-visit_condition
decreases-visit_condition l = l.depth * 2

abbrev pub decreases-visit_conditions : goal.decreases-visit_conditions
decreases-visit_conditions l = l.depth * 2 + 1

abbrev pub invariant-visit_conditions-loop-left : goal.invariant-visit_conditions-loop-left
invariant-visit_conditions-loop-left l =
    Going
    (CountsCs (table_of l.self.facts.now) l.self.words.now l.next l.self.allowance l.count l.stop l.depth l.left)
    (CountsCs (table_of l.self.facts.now) l.self.words.now l.at l.self.allowance l.nodes l.stop l.depth l.arms)

-- The invariant of `Walk::eval_condition`'s loop: what answers the walk where it stands answers the whole. Each turn reads a word, closes a node, or goes
-- on from a known value to the next arm: the measure is twice the words left, the nodes that are open, and one where a value is known. Assumes nothing.
use Prim.Native.Nat.{◌+◌, ◌-◌, ◌*◌, ◌≤◌}
use mathlib.Core.Path.{◌≡◌}
use lib.ListN.{length}
use Rattle.model.specs.Facts.{table_of}
use Rattle.consulted.specs.Listing.{Lent, held}
use Rattle.condition.specs.declared.ConditionEval.{ConditionEval}
use Rattle.condition.specs.Evaluating.{EvaluatesC}
use Rattle.condition.proofs.Walking.{Standing, known_step}
use Rattle.condition.proofs.Walk.eval_condition.Given as goal

abbrev pub invariant-loop-value : goal.invariant-loop-value
invariant-loop-value l =
    ((r : ConditionEval) (t : Lent) → Standing l.value (table_of l.self.facts.now) l.self.words.now l.depth l.above l.level l.next (held l.consulted) r t →
    EvaluatesC (table_of l.self.facts.now) l.self.words.now l.at l.depth (held l.initial.consulted) r t)
    × (l.level ≤ l.depth)
    × (length l.above ≡ 32)

abbrev pub decreases-loop-value : goal.decreases-loop-value
decreases-loop-value l = 2 * (length l.self.words.now - l.next) + l.level + known_step l.value

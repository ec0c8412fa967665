-- The cycle of calls of `evaluate::Evaluation::eval_policy` meets its contracts: a policy by its head; the arms of a list by a loop, whose invariant is that
-- what answers for the arms that are left answers for all. The measure is the depth, and within a level the list rule, then an arm, then the policy.
-- Assumes nothing.
use Prim.Native.Nat.{◌+◌, ◌-◌, ◌*◌}
use Rattle.model.specs.Facts.{table_of}
use Rattle.model.specs.Products.{read_all, read_any}
use Rattle.outcome.specs.Carried.{carried}
use Rattle.policy_model.specs.declared.PolicyHead.TheVariants.{All, Any}
use Rattle.consulted.specs.Listing.{held}
use Rattle.evaluate.specs.Evaluating.{EvaluatesBy}
use Rattle.evaluate.proofs.Arms.{ArmsLeft, all_left, any_left, Going}
use Rattle.evaluate.proofs.Evaluation.+evaluation.Given as goal

abbrev pub decreases-eval_all : goal.decreases-eval_all
decreases-eval_all l = l.depth * 3 + 2

abbrev pub decreases-eval_any : goal.decreases-eval_any
decreases-eval_any l = l.depth * 3 + 2

abbrev pub decreases-eval_arm : goal.decreases-eval_arm
decreases-eval_arm l = l.depth * 3 + 1

abbrev pub decreases-eval_or_else : goal.decreases-eval_or_else
decreases-eval_or_else l = l.depth * 3 + 2

abbrev pub decreases-eval_policy : goal.decreases-eval_policy
decreases-eval_policy l = l.depth * 3

abbrev pub invariant-eval_all-loop-left : goal.invariant-eval_all-loop-left
invariant-eval_all-loop-left l =
    Going
    (ArmsLeft (all_left (carried l.self.outcomes) (table_of l.self.walk.facts.now) l.self.walk.words.now l.sofar l.buf) (read_all (carried l.self.outcomes) (table_of l.self.walk.facts.now)) (table_of l.self.walk.facts.now) l.self.walk.words.now l.sofar l.buf l.next l.depth l.left (held l.consulted))
    (EvaluatesBy (carried l.self.outcomes) (All l.arms) (table_of l.self.walk.facts.now) l.self.walk.words.now l.at l.depth (held l.initial.consulted))
    l.sofar
    l.initial.buf
    l.buf

abbrev pub invariant-eval_any-loop : goal.invariant-eval_any-loop
invariant-eval_any-loop l =
    Going
    (ArmsLeft (any_left (carried l.self.outcomes) (table_of l.self.walk.facts.now) l.self.walk.words.now l.sofar l.buf) (read_any (carried l.self.outcomes) (table_of l.self.walk.facts.now)) (table_of l.self.walk.facts.now) l.self.walk.words.now l.sofar l.buf l.next l.depth (l.arms - l.counter) (held l.consulted))
    (EvaluatesBy (carried l.self.outcomes) (Any l.arms) (table_of l.self.walk.facts.now) l.self.walk.words.now l.at l.depth (held l.initial.consulted))
    l.sofar
    l.initial.buf
    l.buf

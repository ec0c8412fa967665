-- `partial_policy::Reduction::reduce_on_fact` meets its contract. Assumes nothing.
use Rattle.partial_policy.proofs.Nodes.{reduce_plain}
use Rattle.partial_policy.proofs.Reduction.reduce_on_fact.Goals as goal

pub returns : goal.returns
returns c =
    λ depth buf room out. rw (c.resolved.ensures, c.granted-decision.ensures, c.outcome_in-outcome.ensures) (reduce_plain _ _ _ depth _ _ _ buf room out c.requires c.eval_has-satisfied.ensures)

-- `visits::Walk::counted` meets its contract. Assumes nothing.
use Rattle.visits.proofs.Counting.{over_is, within_is}
use Rattle.visits.proofs.Walk.counted.Goals as goal

pub returns-then-self-nodes : goal.returns-then-self-nodes
returns-then-self-nodes c = over_is _ _ _ _ c.if-self-nodes.true

pub returns : goal.returns
returns c = within_is _ _ _ _ c.if-self-nodes.false

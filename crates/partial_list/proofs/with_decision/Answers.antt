-- `partial_list::with_decision` meets its contract. Assumes nothing.
use Rattle.partial_list.proofs.Adding.{one_more, decision_added}
use Rattle.partial_list.proofs.with_decision.Goals as goal

pub returns : goal.returns
returns c = decision_added c.requires.0 c.keep_node-kept.ensures c.fold_next-decision.ensures (one_more _ _)

-- `partial_list::with_decision_in_order` meets its contract. Assumes nothing.
use Rattle.partial_list.proofs.Adding.{held_folded}
use Rattle.partial_list.proofs.with_decision_in_order.Goals as goal

pub returns : goal.returns
returns c = held_folded c.requires.0 c.lay_node-size.ensures c.fold_next-decision.ensures

-- `partial_list::lay_node` meets its contract. Assumes nothing.
use native.Mathlib.Omega.{arith}
use Rattle.partial_list.proofs.Adding.{node_behind}
use borrow.Author.Rules.{rules}
use Rattle.partial_list.proofs.lay_node.Goals as goal

pub returns : goal.returns
returns c =
    node_behind _ _ _ _ _ _ _ (search rules) (search rules) (search rules) c.policy_from_decision-size.ensures c.tail_from-from.ensures (omega arith) c.plus.ensures

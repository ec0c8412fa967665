-- What `condition::node_of` owes to `list_node`: a list has below 4,096 arms. Assumes nothing.
use mathlib.Core.Path.{sym, ◌∙◌}
use Rattle.policy_model.specs.declared.ConditionHead.TheVariants.{All, Any}
use Rattle.condition.proofs.Evaluating.{below_head}
use Rattle.condition.proofs.node_of.Goals as goal

pub list_node-requires : goal.list_node-requires
list_node-requires c = below_head (All _) _ (sym c.in-All.is ∙ c.condition_head.ensures)

pub list_node-requires-in-Any : goal.list_node-requires-in-Any
list_node-requires-in-Any c = below_head (Any _) _ (sym c.in-Any.is ∙ c.condition_head.ensures)

-- `policy_model::check_condition` meets its contract: the check of a tree. Assumes nothing.
use Rattle.policy_model.proofs.Conditions.{condition_lists}
use Rattle.policy_model.proofs.check_condition.Goals as goal

pub check_tree-requires-clause-lists : goal.check_tree-requires-clause-lists
check_tree-requires-clause-lists c = condition_lists _

-- `policy_model::check_policy` meets its contract: the check of a tree. Assumes nothing.
use Rattle.policy_model.proofs.Policies.{policy_lists}
use Rattle.policy_model.proofs.check_policy.Goals as goal

pub check_tree-requires-clause-lists : goal.check_tree-requires-clause-lists
check_tree-requires-clause-lists c = policy_lists _ _ _

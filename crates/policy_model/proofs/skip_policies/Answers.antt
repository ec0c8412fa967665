-- `policy_model::skip_policies` meets its contract: what reads is spanned. Assumes nothing.
use Rattle.policy_model.proofs.Skipping.{skipped_policies}
use Rattle.policy_model.proofs.skip_policies.Goals as goal

pub returns : goal.returns
returns c = λ depth residual. skipped_policies depth residual _ _ _ _ c.skip_nodes.ensures

-- `partial_policy::Reduction::as_residual` meets its contract: by whether it is pending. Assumes nothing.
use Rattle.partial_policy.proofs.Parts.{residual_open, residual_node}
use Rattle.partial_policy.proofs.Reduction.as_residual.Goals as goal

pub returns-in-Pending : goal.returns-in-Pending
returns-in-Pending c = rw c.in-Pending.is (residual_open _ _ (rw c.in-Pending.is at c.requires.0))

pub returns-in-Resolved : goal.returns-in-Resolved
returns-in-Resolved c = rw c.in-Resolved.is (residual_node _ c.policy_from_decision.ensures)

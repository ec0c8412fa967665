-- `policy_model::value_at` meets its contract. Assumes nothing.
use mathlib.Core.Path.{sym}
use lib.ListN.{get_or-eq_default}
use Rattle.policy_model.proofs.value_at.Goals as goal

pub returns-else-at-values : goal.returns-else-at-values
returns-else-at-values g c = sym (get_or-eq_default c.args.values.now c.args.past c.if-at-values.false)

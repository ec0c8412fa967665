-- `vierskof::vierskof_partial_evaluate_in_order` meets its contract: that of the call. Assumes nothing.
use Rattle.vierskof.proofs.Writing.{writes}
use Rattle.vierskof.proofs.vierskof_partial_evaluate_in_order.Goals as goal

pub returns : goal.returns
returns c = writes c.partial_evaluate.ensures c.returned.ensures

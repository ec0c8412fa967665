-- `vierskof::vierskof_narrow_residual_in_order` meets its contract: that of the call. Assumes nothing.
use Rattle.vierskof.proofs.Writing.{writes}
use Rattle.vierskof.proofs.vierskof_narrow_residual_in_order.Goals as goal

pub returns : goal.returns
returns c = writes c.narrow_residual.ensures c.returned.ensures

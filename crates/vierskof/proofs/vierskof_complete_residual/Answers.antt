-- `vierskof::vierskof_complete_residual` meets its contract: that of the call. Assumes nothing.
use Rattle.vierskof.proofs.Writing.{writes}
use Rattle.vierskof.proofs.vierskof_complete_residual.Goals as goal

pub returns : goal.returns
returns c = writes c.complete_residual.ensures c.returned.ensures

-- `vierskof::vierskof_apply_windows` meets its contract: that of the call. Assumes nothing.
use Rattle.vierskof.proofs.Writing.{writes}
use Rattle.vierskof.proofs.vierskof_apply_windows.Goals as goal

pub returns : goal.returns
returns c = writes c.apply_windows.ensures c.returned.ensures

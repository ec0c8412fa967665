-- `vierskof::vierskof_join_tables` meets its contract: that of the call. Assumes nothing.
use Rattle.vierskof.proofs.Writing.{writes}
use Rattle.vierskof.proofs.vierskof_join_tables.Goals as goal

pub returns : goal.returns
returns c = writes c.join_tables.ensures c.returned.ensures

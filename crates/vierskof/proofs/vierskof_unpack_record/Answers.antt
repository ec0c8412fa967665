-- `vierskof::vierskof_unpack_record` meets its contract: that of the call. Assumes nothing.
use Rattle.vierskof.proofs.Writing.{writes}
use Rattle.vierskof.proofs.vierskof_unpack_record.Goals as goal

pub returns : goal.returns
returns c = writes c.unpack_record.ensures c.returned.ensures

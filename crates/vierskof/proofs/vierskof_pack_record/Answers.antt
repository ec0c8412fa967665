-- `vierskof::vierskof_pack_record` meets its contract: that of the call. Assumes nothing.
use Rattle.vierskof.proofs.Writing.{writes}
use Rattle.vierskof.proofs.vierskof_pack_record.Goals as goal

pub returns : goal.returns
returns c = writes c.pack_record.ensures c.returned.ensures

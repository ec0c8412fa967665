-- `vierskof::vierskof_unpack_sheet` meets its contract: that of the call. Assumes nothing.
use Rattle.vierskof.proofs.Writing.{writes}
use Rattle.vierskof.proofs.vierskof_unpack_sheet.Goals as goal

pub returns : goal.returns
returns c = writes c.unpack_sheet.ensures c.returned.ensures

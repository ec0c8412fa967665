-- `vierskof::vierskof_pack_sheet` meets its contract: that of the call. Assumes nothing.
use Rattle.vierskof.proofs.Writing.{writes}
use Rattle.vierskof.proofs.vierskof_pack_sheet.Goals as goal

pub returns : goal.returns
returns c = writes c.pack_sheet.ensures c.returned.ensures

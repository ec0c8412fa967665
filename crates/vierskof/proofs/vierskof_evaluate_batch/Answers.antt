-- `vierskof::vierskof_evaluate_batch` meets its contract: that of the batch. Assumes nothing.
use Rattle.vierskof.proofs.Writing.{batches}
use Rattle.vierskof.proofs.vierskof_evaluate_batch.Goals as goal

pub returns : goal.returns
returns c = batches c.evaluate_batch.ensures c.returned.ensures

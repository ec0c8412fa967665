-- `vierskof::vierskof_evaluate_batch_by_levels` meets its contract: that of the batch. Assumes nothing.
use Rattle.vierskof.proofs.Writing.{batches}
use Rattle.vierskof.proofs.vierskof_evaluate_batch_by_levels.Goals as goal

pub returns : goal.returns
returns c = batches c.evaluate_batch_by_levels.ensures c.returned.ensures

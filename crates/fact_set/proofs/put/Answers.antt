-- `fact_set::put` meets its contract: the fact's bit in its number. Assumes nothing.
use Rattle.fact_set.specs.SetLaws.{put_fact}
use Rattle.fact_set.proofs.put.Goals as goal

pub returns : goal.returns
returns c = put_fact _ _ c.requires

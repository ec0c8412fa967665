-- `fact_set::contains` meets its contract: by the fact's bit in its number. Assumes nothing.
use Rattle.fact_set.specs.SetLaws.{has_fact}
use Rattle.fact_set.proofs.contains.Goals as goal

pub returns : goal.returns
returns c = has_fact _ _ c.if-set-at.false

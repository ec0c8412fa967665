-- `fact_set::insert` meets its contract: a set that is too short is no set of facts that has the fact. Assumes nothing.
use Rattle.fact_set.specs.SetLaws.{no_fact}
use Rattle.fact_set.proofs.insert.Goals as goal

pub returns-else-at-set : goal.returns-else-at-set
returns-else-at-set c = no_fact _ _ c.if-at-set.false

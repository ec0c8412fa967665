-- `outcome::most` meets its contract. Assumes nothing.
use Rattle.std.proofs.Common.{rules}
use Rattle.model.specs.Levels.{outcome_count}
use Rattle.outcome.proofs.most.Goals as goal

pub returns-in-None-clause-counts : goal.returns-in-None-clause-counts
unfolding outcome_count
returns-in-None-clause-counts c = search rules

pub returns-in-Some-clause-counts : goal.returns-in-Some-clause-counts
unfolding outcome_count
returns-in-Some-clause-counts c = search rules

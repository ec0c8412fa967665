-- `questions::carries_obligation` meets its contract: by the walk over the tree. Assumes nothing.
use Rattle.model.specs.Required.{obliges}
use Rattle.questions.proofs.Records.{says, says_refused}
use Rattle.questions.proofs.carries_obligation.Goals as goal

pub returns-in_err-tree : goal.returns-in_err-tree
returns-in_err-tree c = says_refused _ obliges _ _ c.from_residual.ensures.1 c.in_err-tree.ensures

pub returns : goal.returns
returns c = says _ obliges _ _ _ c.in_ok-tree.ensures c.carries.ensures

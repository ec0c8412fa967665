-- `questions::top_is` meets its contract: by the kind of the tree's top node. Assumes nothing.
use Rattle.questions.specs.Nodes.{one_of}
use Rattle.questions.proofs.Records.{some_tree, says, says_refused, one_of_two}
use Rattle.questions.proofs.top_is.Goals as goal

pub returns-in_err-tree : goal.returns-in_err-tree
returns-in_err-tree c = says_refused _ (one_of _ _) _ _ c.from_residual.ensures.1 c.in_err-tree.ensures

pub top_kind-kind-requires : goal.top_kind-kind-requires
top_kind-kind-requires c = some_tree _ _ _ c.in_ok-tree.ensures

pub returns : goal.returns
returns c = says _ (one_of _ _) _ _ _ c.in_ok-tree.ensures (one_of_two _ _ _ _ _ _ c.top_kind-kind.ensures c.either.ensures)

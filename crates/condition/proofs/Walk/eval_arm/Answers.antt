-- `Walk::eval_arm` meets its contract: a Has by its first word, any other condition by the walk. Assumes nothing.
use Rattle.condition.proofs.Evaluating.{eval_end, eval_has_word}
use Rattle.condition.proofs.Walk.eval_arm.Goals as goal

pub returns-then-self-at : goal.returns-then-self-at
returns-then-self-at c = eval_end _ _ _ _ _ _ c.if-self-at.true

pub returns-then-word-eq-HAS : goal.returns-then-word-eq-HAS
returns-then-word-eq-HAS c =
    eval_has_word _ _ _ _ _ _ _ c.if-self-at.false c.if-word-eq-HAS.true c.eval_has.ensures

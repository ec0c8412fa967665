-- `evaluate::Evaluation::eval_grant` meets its contract: by whether its words end early. Assumes nothing.
use native.Mathlib.Omega.{arith}
use Rattle.evaluate.proofs.Evaluating.{grant_short, grant_decides, grant_by_word}
use Rattle.evaluate.proofs.Evaluation.eval_grant.Goals as goal

pub returns-then-self-at : goal.returns-then-self-at
returns-then-self-at c =
    λ g shape n o buf. rw c.denied.ensures
    (grant_by_word shape n o
    (grant_short g _ _ _ _ shape _ _ c.requires.0 c.requires.1 _ _ buf (omega arith) (omega arith)))

pub returns : goal.returns
returns c =
    λ g shape n o buf. rw (c.granted.ensures, c.outcome_in-outcome.ensures)
    (grant_by_word shape n o
    (grant_decides g _ _ _ _ shape _ _ c.requires.0 c.requires.1 _ _ _ buf (rw c.before_condition_in-before.ensures at c.eval_arm-condition.ensures)))

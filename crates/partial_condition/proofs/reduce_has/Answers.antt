-- `partial_condition::reduce_has` meets its contract: by whether the table settles the fact. Assumes nothing.
use mathlib.Core.Path.{sym, ◌∙◌}
use Rattle.model.specs.Facts.{table_of}
use Rattle.facts.specs.AnswerLaws.{unsettled}
use Rattle.partial_condition.proofs.Reducing.{has_settled, has_unknown}
use Rattle.partial_condition.proofs.reduce_has.Goals as goal

pub returns-then-settled : goal.returns-then-settled
returns-then-settled c =
    has_settled (table_of c.args.walk.now.facts.now) _ _ _ _ _ (sym c.settled.ensures ∙ c.if-settled.true) c.eval_has.ensures

pub returns : goal.returns
returns c =
    has_unknown (table_of c.args.walk.now.facts.now) _ _ c.args.out.now _ (unsettled _ (sym c.settled.ensures ∙ c.if-settled.false)) c.put_first.ensures

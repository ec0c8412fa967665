-- `residual::policy_from_decision` meets its contract: a permit with nothing but its outcome and one by a plain grant are laid at once. Assumes nothing.
use mathlib.Core.Path.{sym, ◌∙◌}
use Rattle.policy_model.specs.PlainLaws.{plain_inside}
use Rattle.residual.proofs.Short.{node_bare, node_on_fact}
use Rattle.residual.proofs.policy_from_decision.Goals as goal

pub returns-in_default : goal.returns-in_default
returns-in_default c =
    node_bare (c.from_one_node.ensures c.if-from_one_node.true) c.in_default.ensures c.lay_bare.ensures

pub bounds-words-at : goal.bounds-words-at
bounds-words-at c =
    plain_inside _ _ (sym c.plain_grant.ensures ∙ c.if-plain_grant.true)

pub returns-then-plain_grant : goal.returns-then-plain_grant
returns-then-plain_grant c =
    node_on_fact (c.from_one_node.ensures c.if-from_one_node.true) c.in-Some.ensures (sym c.plain_grant.ensures ∙ c.if-plain_grant.true) c.lay_on_fact.ensures

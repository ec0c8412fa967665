-- `partial_policy::Reduction::settled_grant` meets its contract. Assumes nothing.
use mathlib.Core.Path.{refl, sym, ◌∙◌}
use mathlib.Core.Bool.{false}
use Rattle.policy_model.specs.PlainLaws.{plain_inside}
use Rattle.partial_list.proofs.Adding.{clash}
use Rattle.partial_policy.proofs.Reduction.settled_grant.Goals as goal

pub returns-then-not-plain_grant : goal.returns-then-not-plain_grant
returns-then-not-plain_grant c = λ e. clash false e refl

pub bounds-words-at : goal.bounds-words-at
bounds-words-at c = plain_inside _ _ (sym c.plain_grant.ensures ∙ c.if-not-plain_grant.false)

pub returns : goal.returns
returns c =
    let plain = sym c.plain_grant.ensures ∙ c.if-not-plain_grant.false in
    λ e. record { inside = plain_inside _ _ plain; plain = plain; known = sym c.settled.ensures ∙ e }

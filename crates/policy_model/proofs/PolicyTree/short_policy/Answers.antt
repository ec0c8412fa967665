-- `policy_model::PolicyTree::short_policy` meets its contract: a Permit by its word, a plain grant by its three. Assumes nothing.
use mathlib.Core.Path.{◌≡◌, sym, ◌∙◌}
use mathlib.Core.Bool.{true}
use native.Mathlib.Omega.{arith}
use borrow.Author.Tests.{lt-ltb}
use lib.ListN.{drop}
use Rattle.policy_model.specs.declared.PolicyHead.TheVariants.{Permit}
use Rattle.policy_model.specs.Answers.{checked}
use Rattle.policy_model.specs.Heads.{policy_node}
use Rattle.policy_model.specs.HeadLaws.{permit_word}
use Rattle.policy_model.specs.Plain.{plain_grant}
use Rattle.policy_model.specs.PlainLaws.{plain_inside}
use Rattle.policy_model.proofs.Policies.{by_head, plain_passed}
use Rattle.policy_model.proofs.PolicyTree.short_policy.Goals as goal

pub returns-else-depth-eq0 : goal.returns-else-depth-eq0
unfolding checked policy_node
returns-else-depth-eq0 c =
    let s = c.args in
    let t = s.self.now in
    (omega arith, omega arith, by_head t.most t.words.now s.at s.depth t.residual (Permit _) c.if-words-at.false c.if-depth-eq0.false (permit_word _ _ c.if-words-at-eq-PERMIT.true) (sym (lt-ltb _ _ c.if-words-at-2.false)))

pub returns-then-words-at-3 : goal.returns-then-words-at-3
returns-then-words-at-3 c =
    let s = c.args in
    let t = s.self.now in
    let plain : plain_grant (drop s.at t.words.now) ≡ true = sym c.plain_grant.ensures ∙ c.if-plain_grant.true in
    (omega arith, omega (arith, plain_inside t.words.now s.at plain), plain_passed t.most t.words.now s.at s.depth t.residual c.if-words-at-3.true plain c.if-depth-lt2.false)

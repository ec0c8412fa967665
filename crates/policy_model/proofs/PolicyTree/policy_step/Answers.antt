-- `policy_model::PolicyTree::policy_step` meets its contract: by the head of the word. Assumes nothing.
use Rattle.std.specs.Prelude.{Ok, Err}
use mathlib.Core.Logic.{◌⊎◌, inl, inr}
use mathlib.Core.Path.{◌≡◌, sym, ◌∙◌, ap}
use Prim.Native.Nat.{ℕ, ◌+◌, ◌-◌}
use borrow.Author.Rules.{rules}
use lib.ListN.{drop}
use Rattle.model.specs.Policy.{pnil, pcons}
use Rattle.model.specs.Reading.{many}
use Rattle.laws.specs.Size.{words, wordss}
use Rattle.policy_model.specs.declared.PolicyHead.{PolicyHead}
use Rattle.policy_model.specs.declared.PolicyHead.TheVariants.{Permit, Deny, Grant, All, Any, OrElse, PermitWithTrace, DenyWithTrace, BadKind, BadField}
use Rattle.policy_model.specs.Answers.{checked}
use Rattle.policy_model.specs.Heads.{within_most, policy_node}
use Rattle.policy_model.proofs.Checking.{step_refused}
use Rattle.policy_model.proofs.Policies.{read_by, node_by, Asked, no_policy, too_deep, by_head, not_within, after_all, after_any, after_or_else, after_permit_lem, after_deny_lem, whole_node}
use Rattle.policy_model.proofs.PolicyTree.policy_step.Goals as goal
use Rattle.policy_model.proofs.PolicyTree.policy_step.Goals.{Else-not-within}

pub returns-in_err-word : goal.returns-in_err-word
returns-in_err-word c =
    let from = c.args in
    let short = c.in_err-word.ensures in
    step_refused _ _ _ _ _ _ _ c.from_residual.ensures.1 (ap Err short.1 ∙ no_policy from.self.now.most from.self.now.words.now _ from.depth from.self.now.residual short.0)

pub returns-then-depth-eq0 : goal.returns-then-depth-eq0
returns-then-depth-eq0 c =
    let from = c.args in
    let w = c.in_ok-word.ensures in
    too_deep from.self.now.most from.self.now.words.now from.at from.depth from.self.now.residual _ _ w.0 c.if-depth-eq0.true (rw w.1 at c.head_by_kind.ensures) c.deep_policy.ensures

pub returns-then-not-within : goal.returns-then-not-within
returns-then-not-within c =
    let w = c.in_ok-word.ensures in
    not_within _ _ _ _ _ _ w.0 c.if-depth-eq0.false (rw w.1 at c.policy_head-head.ensures) (sym c.if-not-within.true ∙ c.within.ensures)

abbrev Matching : Type 0
Matching = Else-not-within

by_the_head : (c : Matching) (h : PolicyHead) → c.policy_head-head.result ≡ h →
    checked words c.args.at (node_by c.args.self.now.most c.args.self.now.residual (c.args.depth - 1) h (drop (c.args.at + 1) c.args.self.now.words.now))
    ≡ Asked c.args.self.now.most c.args.self.now.words.now c.args.at c.args.depth c.args.self.now.residual
by_the_head c h e =
    let w = c.in_ok-word.ensures in
    by_head _ _ _ _ _ h w.0 c.if-depth-eq0.false (sym e ∙ rw w.1 at c.policy_head-head.ensures)
    (sym c.if-not-within.false ∙ c.within.ensures ∙ ap (within_most c.args.self.now.most) e)

pub returns-in-Permit : goal.returns-in-Permit
unfolding checked policy_node
returns-in-Permit c =
    let m = (goal.at.returns-in-Permit c).Else-not-within in
    let passed : Ok (c.args.at + 1) ≡ Asked c.args.self.now.most c.args.self.now.words.now c.args.at c.args.depth c.args.self.now.residual = elim c.in-Permit.is [ inl e ↦ by_the_head m (Permit _) e.1 | inr e ↦ by_the_head m Deny e ] in
    (passed, search rules, search rules)

pub returns-in_err-after-in-Grant : goal.returns-in_err-after-in-Grant
unfolding policy_node
returns-in_err-after-in-Grant c =
    step_refused _ _ _ _ _ _ _ c.from_residual-in_err-after-in-Grant.ensures.1 (c.in_err-after-in-Grant.ensures _ _ ∙ by_the_head (goal.at.returns-in_err-after-in-Grant c).Else-not-within (Grant _ _ _) c.in-Grant.is)

pub returns-in_ok-after-in-Grant : goal.returns-in_ok-after-in-Grant
unfolding policy_node
returns-in_ok-after-in-Grant c =
    whole_node _ _ _ _ _ _ c.in_ok-word.ensures.0 (c.in_ok-after-in-Grant.ensures _ _ ∙ by_the_head (goal.at.returns-in_ok-after-in-Grant c).Else-not-within (Grant _ _ _) c.in-Grant.is)

-- All or Any.
by_arms : (c : Matching) (n : ℕ) → (c.policy_head-head.result ≡ All n) ⊎ (c.policy_head-head.result ≡ Any n) →
    checked wordss (c.args.at + 1) (many pnil pcons (read_by c.args.self.now.most c.args.self.now.residual (c.args.depth - 1)) n (drop (c.args.at + 1) c.args.self.now.words.now))
    ≡ Asked c.args.self.now.most c.args.self.now.words.now c.args.at c.args.depth c.args.self.now.residual
by_arms c n (inl e) = after_all _ _ _ _ _ ∙ by_the_head c (All n) e
by_arms c n (inr e) = after_any _ _ _ _ _ ∙ by_the_head c (Any n) e

pub returns-in-All : goal.returns-in-All
returns-in-All c = (by_arms (goal.at.returns-in-All c).Else-not-within _ c.in-All.is, search rules, search rules)

pub returns-in-All-2 : goal.returns-in-All-2
returns-in-All-2 c = (by_arms (goal.at.returns-in-All-2 c).Else-not-within _ c.in-All.is, search rules, search rules)

pub returns-in-OrElse : goal.returns-in-OrElse
returns-in-OrElse c = (after_or_else _ _ _ _ ∙ by_the_head (goal.at.returns-in-OrElse c).Else-not-within OrElse c.in-OrElse.is, search rules, search rules)

pub returns-in_err-after-in-PermitWithTrace : goal.returns-in_err-after-in-PermitWithTrace
returns-in_err-after-in-PermitWithTrace c =
    step_refused _ _ _ _ _ _ _ c.from_residual-in_err-after-in-PermitWithTrace.ensures.1 (c.in_err-after-in-PermitWithTrace.ensures _ ∙ after_permit_lem _ _ _ _ _ _ ∙ by_the_head (goal.at.returns-in_err-after-in-PermitWithTrace c).Else-not-within (PermitWithTrace _ _) c.in-PermitWithTrace.is)

pub returns-in_ok-after-in-PermitWithTrace : goal.returns-in_ok-after-in-PermitWithTrace
returns-in_ok-after-in-PermitWithTrace c =
    whole_node _ _ _ _ _ _ c.in_ok-word.ensures.0 (c.in_ok-after-in-PermitWithTrace.ensures _ ∙ after_permit_lem _ _ _ _ _ _ ∙ by_the_head (goal.at.returns-in_ok-after-in-PermitWithTrace c).Else-not-within (PermitWithTrace _ _) c.in-PermitWithTrace.is)

pub returns-in_err-after-in-DenyWithTrace : goal.returns-in_err-after-in-DenyWithTrace
returns-in_err-after-in-DenyWithTrace c =
    step_refused _ _ _ _ _ _ _ c.from_residual-in_err-after-in-DenyWithTrace.ensures.1 (c.in_err-after-in-DenyWithTrace.ensures _ _ ∙ after_deny_lem _ _ _ _ _ _ ∙ by_the_head (goal.at.returns-in_err-after-in-DenyWithTrace c).Else-not-within (DenyWithTrace _ _) c.in-DenyWithTrace.is)

pub returns-in_ok-after-in-DenyWithTrace : goal.returns-in_ok-after-in-DenyWithTrace
returns-in_ok-after-in-DenyWithTrace c =
    whole_node _ _ _ _ _ _ c.in_ok-word.ensures.0 (c.in_ok-after-in-DenyWithTrace.ensures _ _ ∙ after_deny_lem _ _ _ _ _ _ ∙ by_the_head (goal.at.returns-in_ok-after-in-DenyWithTrace c).Else-not-within (DenyWithTrace _ _) c.in-DenyWithTrace.is)

pub returns-in-BadKind : goal.returns-in-BadKind
unfolding checked policy_node
returns-in-BadKind c = by_the_head (goal.at.returns-in-BadKind c).Else-not-within BadKind c.in-BadKind.is

pub returns-in-BadField : goal.returns-in-BadField
unfolding checked policy_node
returns-in-BadField c = by_the_head (goal.at.returns-in-BadField c).Else-not-within BadField c.in-BadField.is

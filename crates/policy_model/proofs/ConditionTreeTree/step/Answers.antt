-- `policy_model::ConditionTree::step` meets its contract: by the head of the word. Assumes nothing.
use Rattle.std.specs.Prelude.{Ok, Err}
use mathlib.Core.Logic.{◌⊎◌, inl, inr}
use mathlib.Core.Path.{◌≡◌, sym, ◌∙◌, ap}
use Prim.Native.Nat.{ℕ, ◌+◌, ◌-◌}
use borrow.Author.Rules.{rules}
use lib.ListN.{drop}
use Rattle.model.specs.Condition.{cnil, ccons}
use Rattle.model.specs.Reading.{many, read_condition}
use Rattle.laws.specs.Size.{words_c, words_cs}
use Rattle.policy_model.specs.declared.ConditionHead.{ConditionHead}
use Rattle.policy_model.specs.declared.ConditionHead.TheVariants.{Always, Never, Has, Not, All, Any, BadKind, BadField}
use Rattle.policy_model.specs.Answers.{checked}
use Rattle.policy_model.specs.Heads.{condition_node}
use Rattle.policy_model.proofs.Checking.{step_refused}
use Rattle.policy_model.proofs.Conditions.{Asked, no_condition, too_deep, by_head, after_not, after_all, after_any}
use Rattle.policy_model.proofs.ConditionTreeTree.step.Goals as goal
use Rattle.policy_model.proofs.ConditionTreeTree.step.Goals.{After-condition_head-head}

pub returns-in_err-word : goal.returns-in_err-word
returns-in_err-word c =
    let short = c.in_err-word.ensures in
    step_refused _ _ _ _ _ _ _ c.from_residual.ensures.1 (ap Err short.1 ∙ no_condition c.args.self.now.words.now _ c.args.depth short.0)

pub returns-then-depth-eq0 : goal.returns-then-depth-eq0
returns-then-depth-eq0 c =
    let w = c.in_ok-word.ensures in
    too_deep _ _ _ _ _ w.0 c.if-depth-eq0.true (rw w.1 at c.condition_head.ensures) c.deep_condition.ensures

abbrev Matching : Type 0
Matching = After-condition_head-head

by_the_head : (c : Matching) (h : ConditionHead) → c.condition_head-head.result ≡ h →
    checked words_c c.args.at (condition_node (read_condition (c.args.depth - 1)) h (drop (c.args.at + 1) c.args.self.now.words.now))
    ≡ Asked c.args.self.now.words.now c.args.at c.args.depth
by_the_head c h e =
    let w = c.in_ok-word.ensures in
    by_head _ _ _ h w.0 c.if-depth-eq0.false (sym e ∙ rw w.1 at c.condition_head-head.ensures)

pub returns-in-Always : goal.returns-in-Always
unfolding checked condition_node
returns-in-Always c =
    let m = (goal.at.returns-in-Always c).After-condition_head-head in
    let passed : Ok (c.args.at + 1) ≡ Asked c.args.self.now.words.now c.args.at c.args.depth = elim c.in-Always.is [ inl e ↦ by_the_head m Always e | inr d ↦ elim d [ inl e ↦ by_the_head m Never e | inr e ↦ by_the_head m (Has _) e.1 ] ] in
    (passed, search rules, search rules)

pub returns-in-Not : goal.returns-in-Not
returns-in-Not c = (after_not _ _ _ ∙ by_the_head (goal.at.returns-in-Not c).After-condition_head-head Not c.in-Not.is, search rules, search rules)

-- All or Any.
by_arms : (c : Matching) (n : ℕ) → (c.condition_head-head.result ≡ All n) ⊎ (c.condition_head-head.result ≡ Any n) →
    checked words_cs (c.args.at + 1) (many cnil ccons (read_condition (c.args.depth - 1)) n (drop (c.args.at + 1) c.args.self.now.words.now))
    ≡ Asked c.args.self.now.words.now c.args.at c.args.depth
by_arms c n (inl e) = after_all _ _ _ _ ∙ by_the_head c (All n) e
by_arms c n (inr e) = after_any _ _ _ _ ∙ by_the_head c (Any n) e

pub returns-in-All : goal.returns-in-All
returns-in-All c = (by_arms (goal.at.returns-in-All c).After-condition_head-head _ c.in-All.is, search rules, search rules)

pub returns-in-All-2 : goal.returns-in-All-2
returns-in-All-2 c = (by_arms (goal.at.returns-in-All-2 c).After-condition_head-head _ c.in-All.is, search rules, search rules)

pub returns-in-BadKind : goal.returns-in-BadKind
unfolding checked condition_node
returns-in-BadKind c = by_the_head (goal.at.returns-in-BadKind c).After-condition_head-head BadKind c.in-BadKind.is

pub returns-in-BadField : goal.returns-in-BadField
unfolding checked condition_node
returns-in-BadField c = by_the_head (goal.at.returns-in-BadField c).After-condition_head-head BadField c.in-BadField.is

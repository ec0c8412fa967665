-- The cycle of calls of `partial_condition::reduce_condition` meets its contracts: a condition by its head, the arms of a list rule one by one. Assumes nothing.
use borrow.Author.Rules.{rules}
use mathlib.Core.Logic.{⊎_elim}
use mathlib.Core.Path.{refl, sym, ◌∙◌}
use native.Mathlib.Omega.{arith}
use Rattle.policy_model.specs.declared.ConditionHead.TheVariants.{Has, All, Any}
use Rattle.condition.proofs.Evaluating.{below_head}
use Rattle.partial_condition.proofs.Laying.{returned}
use Rattle.partial_condition.proofs.Reducing.{reduce_end, reduce_bad_kind, reduce_bad_field, reduce_always, reduce_never, reduce_no_arms, reduce_not, reduce_has_lem, reduce_has_word, reduce_all, reduce_any}
use Rattle.partial_condition.proofs.Arms.{going_none, going_keep, going_same, going_stop, going_end}
use Rattle.partial_condition.proofs.+reduction.Goals as goal

pub reduce_arm-returns-then-word-eq-HAS : goal.reduce_arm-returns-then-word-eq-HAS
reduce_arm-returns-then-word-eq-HAS t c =
    reduce_has_word _ _ _ _ _ _ _ _ c.if-at-walk.true c.if-word-eq-HAS.true c.reduce_has.ensures

pub reduce_arms-loop-left-init : goal.reduce_arms-loop-left-init
reduce_arms-loop-left-init t c = going_none _ _ _ _ _ _ _ _

pub reduce_arms-loop-left-preserved-in-Pending : goal.reduce_arms-loop-left-preserved-in-Pending
reduce_arms-loop-left-preserved-in-Pending t c =
    going_keep _ _ _ _ _ _ _ _ _ _ _ _ _ _ _ (omega (arith, c.loop-left-test.true)) c.loop-left.invariant c.reduce_arm-arm.ensures _ _ _ _ _ c.in-Pending.is
    (returned _ _ c.loop-left.out c.reduce_arm-arm.new.out c.tail_from-from.ensures (search rules)) c.keep-kept.ensures

pub reduce_arms-returns-then-satisfied-stop : goal.reduce_arms-returns-then-satisfied-stop
reduce_arms-returns-then-satisfied-stop t c =
    going_stop _ _ _ _ _ _ _ _ _ _ _ _ _ _ _ (omega (arith, c.loop-left-test.true)) c.loop-left.invariant c.reduce_arm-arm.ensures _ _ _ c.in-Known.is c.if-satisfied-stop.true c.skip_conditions.ensures

pub reduce_arms-loop-left-preserved : goal.reduce_arms-loop-left-preserved
reduce_arms-loop-left-preserved t c =
    going_same _ _ _ _ _ _ _ _ _ _ _ _ _ _ _ (omega (arith, c.loop-left-test.true)) c.loop-left.invariant c.reduce_arm-arm.ensures _ _ _ c.in-Known.is c.if-satisfied-stop.false
    (returned _ _ c.loop-left.out c.reduce_arm-arm.new.out c.tail_from-from.ensures (search rules))

pub reduce_arms-returns : goal.reduce_arms-returns
reduce_arms-returns t c =
    going_end _ _ _ _ _ _ _ _ _ _ _ _ _ _ (omega (arith, c.loop-left-test.false)) c.loop-left.invariant c.ended.ensures

pub reduce_condition-returns-then-walk-at : goal.reduce_condition-returns-then-walk-at
reduce_condition-returns-then-walk-at t c = reduce_end _ _ _ _ _ _ _ (omega arith) c.then-walk-at.either

pub reduce_condition-reduce_has-to-requires : goal.reduce_condition-reduce_has-to-requires
reduce_condition-reduce_has-to-requires t c =
    below_head (Has _) _ (sym c.in-Has.is ∙ c.condition_head.ensures)

pub reduce_condition-returns-in-Not : goal.reduce_condition-returns-in-Not
reduce_condition-returns-in-Not t c =
    reduce_not _ _ _ _ _ c.if-walk-at.false c.if-depth-eq0.false _ _ _ _ _ c.args.out.now c.reduce_condition-inner.new.out _ (sym c.in-Not.is ∙ c.condition_head.ensures)
    (returned _ _ c.args.out.now c.reduce_condition-inner.new.out c.tail_from-from.ensures (search rules)) c.negated.ensures refl c.reduce_condition-inner.ensures

pub reduce_condition-reduce_arms-requires : goal.reduce_condition-reduce_arms-requires
reduce_condition-reduce_arms-requires t c =
    (search rules, below_head (All _) _ (sym c.in-All.is ∙ c.condition_head.ensures))

pub reduce_condition-returns-in-All : goal.reduce_condition-returns-in-All
reduce_condition-returns-in-All t c =
    reduce_all _ _ _ _ _ c.if-walk-at.false c.if-depth-eq0.false _ _ _ _ (sym c.in-All.is ∙ c.condition_head.ensures) c.in-All.arms-test.1 c.reduce_arms.ensures

pub reduce_condition-reduce_arms-requires-in-Any :
    goal.reduce_condition-reduce_arms-requires-in-Any
reduce_condition-reduce_arms-requires-in-Any t c =
    (search rules, below_head (Any _) _ (sym c.in-Any.is ∙ c.condition_head.ensures))

pub reduce_condition-returns-in-Any : goal.reduce_condition-returns-in-Any
reduce_condition-returns-in-Any t c =
    reduce_any _ _ _ _ _ c.if-walk-at.false c.if-depth-eq0.false _ _ _ _ (sym c.in-Any.is ∙ c.condition_head.ensures) c.reduce_arms-in-Any.ensures

pub reduce_condition-returns-in-BadKind : goal.reduce_condition-returns-in-BadKind
reduce_condition-returns-in-BadKind t c =
    let there = c.if-walk-at.false in
    let deep = c.if-depth-eq0.false in
    ⊎_elim (λ e. reduce_bad_kind _ _ _ _ _ _ _ (omega arith) there deep (sym e ∙ c.condition_head.ensures))
    (λ e. reduce_bad_field _ _ _ _ _ _ _ (omega arith) there deep (sym e ∙ c.condition_head.ensures)) c.in-BadKind.is

pub reduce_condition-returns-in-Always : goal.reduce_condition-returns-in-Always
reduce_condition-returns-in-Always t c =
    reduce_always _ _ _ _ _ c.if-walk-at.false c.if-depth-eq0.false _ _ _ (sym c.in-Always.is ∙ c.condition_head.ensures) refl refl

pub reduce_condition-returns-in-Never : goal.reduce_condition-returns-in-Never
reduce_condition-returns-in-Never t c =
    reduce_never _ _ _ _ _ c.if-walk-at.false c.if-depth-eq0.false _ _ _ (sym c.in-Never.is ∙ c.condition_head.ensures) refl refl

pub reduce_condition-returns-in-Has : goal.reduce_condition-returns-in-Has
reduce_condition-returns-in-Has t c =
    reduce_has_lem _ _ _ _ _ c.if-walk-at.false c.if-depth-eq0.false _ _ _ _ (sym c.in-Has.is ∙ c.condition_head.ensures) c.reduce_has-to.ensures

pub reduce_condition-returns-in-All-eq0 : goal.reduce_condition-returns-in-All-eq0
reduce_condition-returns-in-All-eq0 t c =
    reduce_no_arms _ _ _ _ _ c.if-walk-at.false c.if-depth-eq0.false _ _ _ (sym (rw c.in-All-eq0.field-0-test at c.in-All-eq0.is) ∙ c.condition_head.ensures) refl refl

-- The proof of the cycle of calls {decisive_arm, decisive_arms, decisive_facts}. Assumes nothing.
use borrow.Author.Rules.{rules}
use mathlib.Core.Logic.{⊎_elim}
use mathlib.Core.Path.{refl, sym, ◌∙◌}
use native.Mathlib.Omega.{arith}
use Rattle.policy_model.specs.declared.ConditionHead.TheVariants.{Has}
use Rattle.condition.proofs.Evaluating.{below_head}
use Rattle.decisive.proofs.Nodes.{decides_end, decides_limit, decides_bad_kind, decides_bad_field, decides_always, decides_never, decides_none, decides_has, decides_not, decides_any, decides_all, decides_arm}
use Rattle.decisive.proofs.Arms.{passing_more, passing_stop, passing_end}
use Rattle.decisive.proofs.+naming.Goals as goal

pub decisive_arm-returns-then-walk-at : goal.decisive_arm-returns-then-walk-at
decisive_arm-returns-then-walk-at t c = decides_end _ _ _ c.args.depth _ _ _ c.if-walk-at.true c.nothing.ensures

pub decisive_arm-returns-then-word-eq-HAS : goal.decisive_arm-returns-then-word-eq-HAS
decisive_arm-returns-then-word-eq-HAS t c =
    decides_arm _ _ _ c.args.depth c.args.out.now _ _ c.if-walk-at.false c.if-word-eq-HAS.true (omega arith) c.name_fact.ensures

pub decisive_arms-returns-then-arm-stop : goal.decisive_arms-returns-then-arm-stop
decisive_arms-returns-then-arm-stop t c =
    passing_stop _ _ _ _ _ _ _ _ _ _ _ c.loop-left.left _ c.decisive_arm-arm.result (λ z. omega arith) c.loop-left.invariant c.decisive_arm-arm.ensures (search rules)
    _ _ _ c.skip_conditions.ensures (record { satisfied_is = refl; next_is = refl; count_is = refl }) c.copy_within.ensures.after c.if-arm-stop.true (c.copy_within.ensures.len ∙ search rules)

pub decisive_arms-loop-left-preserved : goal.decisive_arms-loop-left-preserved
decisive_arms-loop-left-preserved t c =
    passing_more _ _ _ _ _ _ _ _ _ _ _ c.loop-left.left _ c.decisive_arm-arm.result (λ z. omega arith) c.loop-left.invariant c.decisive_arm-arm.ensures (search rules) c.if-arm-stop.false

pub decisive_arms-returns : goal.decisive_arms-returns
decisive_arms-returns t c = passing_end _ _ _ _ _ _ _ _ _ c.loop-left.left _ _ (omega arith) c.loop-left.invariant (record { satisfied_is = refl; next_is = refl; count_is = refl })

pub decisive_facts-returns-then-walk-at : goal.decisive_facts-returns-then-walk-at
decisive_facts-returns-then-walk-at t c =
    ⊎_elim (λ e. decides_end _ _ _ c.args.depth _ _ _ e c.nothing.ensures) (λ e. decides_limit _ _ _ _ _ _ _ e.1 c.nothing.ensures) c.then-walk-at.either

pub decisive_facts-name_fact-requires : goal.decisive_facts-name_fact-requires
decisive_facts-name_fact-requires t c = (below_head (Has _) _ (sym c.in-Has.is ∙ c.condition_head.ensures), search rules)

pub decisive_facts-returns-in-Always : goal.decisive_facts-returns-in-Always
decisive_facts-returns-in-Always t c = decides_always _ _ _ _ _ _ c.if-walk-at.false c.if-depth-eq0.false (sym c.in-Always.is ∙ c.condition_head.ensures) c.nothing-in-Always.ensures

pub decisive_facts-returns-in-Never : goal.decisive_facts-returns-in-Never
decisive_facts-returns-in-Never t c = decides_never _ _ _ _ _ _ c.if-walk-at.false c.if-depth-eq0.false (sym c.in-Never.is ∙ c.condition_head.ensures) c.nothing-in-Never.ensures

pub decisive_facts-returns-in-Has : goal.decisive_facts-returns-in-Has
decisive_facts-returns-in-Has t c = decides_has _ _ _ _ _ _ c.if-walk-at.false c.if-depth-eq0.false _ c.args.out.now (sym c.in-Has.is ∙ c.condition_head.ensures) (omega arith) c.name_fact.ensures

pub decisive_facts-returns-in-Not : goal.decisive_facts-returns-in-Not
decisive_facts-returns-in-Not t c = decides_not _ _ _ _ _ _ c.if-walk-at.false c.if-depth-eq0.false c.decisive_facts.result (sym c.in-Not.is ∙ c.condition_head.ensures) c.negated.ensures c.decisive_facts.ensures

pub decisive_facts-returns-in-All-eq0 : goal.decisive_facts-returns-in-All-eq0
decisive_facts-returns-in-All-eq0 t c = decides_none _ _ _ _ _ _ c.if-walk-at.false c.if-depth-eq0.false _ (sym (rw c.in-All-eq0.field-0-test at c.in-All-eq0.is) ∙ c.condition_head.ensures) refl c.nothing-in-All-eq0.ensures

pub decisive_facts-returns-in-All : goal.decisive_facts-returns-in-All
decisive_facts-returns-in-All t c = decides_all _ _ _ _ _ _ c.if-walk-at.false c.if-depth-eq0.false _ (sym c.in-All.is ∙ c.condition_head.ensures) c.in-All.arms-test.1 c.decisive_arms.ensures

pub decisive_facts-returns-in-Any : goal.decisive_facts-returns-in-Any
decisive_facts-returns-in-Any t c = decides_any _ _ _ _ _ _ c.if-walk-at.false c.if-depth-eq0.false _ (sym c.in-Any.is ∙ c.condition_head.ensures) c.decisive_arms-in-Any.ensures

pub decisive_facts-returns-in-BadKind : goal.decisive_facts-returns-in-BadKind
decisive_facts-returns-in-BadKind t c =
    ⊎_elim (λ e. decides_bad_kind _ _ _ _ _ _ c.if-walk-at.false c.if-depth-eq0.false _ (sym e ∙ c.condition_head.ensures) c.nothing-in-BadKind.ensures)
    (λ e. decides_bad_field _ _ _ _ _ _ c.if-walk-at.false c.if-depth-eq0.false _ (sym e ∙ c.condition_head.ensures) c.nothing-in-BadKind.ensures) c.in-BadKind.is

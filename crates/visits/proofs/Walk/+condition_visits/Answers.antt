-- The cycle of calls of `visits::Walk::visit_condition` meets its contracts: a condition by its head; arms by a loop, whose invariant is that what answers for
-- the arms that are left answers for all. The measure is the depth, and within a level the list, then the condition. Assumes nothing.
use mathlib.Core.Logic.{inl, inr}
use mathlib.Core.Path.{refl, sym, ◌∙◌}
use native.Mathlib.Omega.{arith}
use Rattle.model.specs.Facts.{table_of}
use Rattle.visits.proofs.Conditions.{no_words, no_levels, no_nodes, always_counted, never_counted, has_counted, has_word_counted, not_counted, all_none, all_counted, any_counted, bad_kind, bad_field, conditions_none, conditions_over, conditions_more, conditions_stop}
use Rattle.visits.proofs.Walk.+condition_visits.Goals as goal
use Rattle.visits.proofs.Walk.+condition_visits.Goals.{visit_condition-then-self-at-via-then-self-at, visit_condition-then-self-at-via-else-self-at+then-depth-eq0, visit_condition-then-self-at-via-else-self-at+else-depth-eq0+then-self-nodes}

pub visit_condition-returns-then-self-at : goal.visit_condition-returns-then-self-at
visit_condition-returns-then-self-at t c =
    let a = c.args in
    let s = a.self.now in
    elim c.then-self-at.branch [
      | visit_condition-then-self-at-via-then-self-at w ↦ no_words (table_of s.facts.now) s.words.now a.at s.allowance a.nodes a.depth _ w.if-self-at.true
      | visit_condition-then-self-at-via-else-self-at+then-depth-eq0 w ↦ no_levels (table_of s.facts.now) s.words.now a.at s.allowance a.nodes a.depth _ w.if-self-at.false w.if-depth-eq0.true
      | visit_condition-then-self-at-via-else-self-at+else-depth-eq0+then-self-nodes w ↦ no_nodes (table_of s.facts.now) s.words.now a.at s.allowance a.nodes a.depth w.if-self-nodes.true
    ]

pub visit_condition-returns-then-word-eq-HAS : goal.visit_condition-returns-then-word-eq-HAS
visit_condition-returns-then-word-eq-HAS t c =
    let a = c.args in
    let s = a.self.now in
    has_word_counted (table_of s.facts.now) s.words.now a.at s.allowance a.nodes a.depth c.if-self-at.false c.if-depth-eq0.false _ _ c.if-word-eq-HAS.true c.present.ensures c.counted.ensures

pub visit_condition-returns-in-Always : goal.visit_condition-returns-in-Always
visit_condition-returns-in-Always t c =
    let a = c.args in
    let s = a.self.now in
    always_counted (table_of s.facts.now) s.words.now a.at s.allowance a.nodes a.depth c.if-self-at.false c.if-depth-eq0.false _ c.in-Always.ensures c.counted-in-Always.ensures

pub visit_condition-returns-in-Never : goal.visit_condition-returns-in-Never
visit_condition-returns-in-Never t c =
    let a = c.args in
    let s = a.self.now in
    never_counted (table_of s.facts.now) s.words.now a.at s.allowance a.nodes a.depth c.if-self-at.false c.if-depth-eq0.false _ c.in-Never.ensures c.counted-in-Never.ensures

pub visit_condition-returns-in-Has : goal.visit_condition-returns-in-Has
visit_condition-returns-in-Has t c =
    let a = c.args in
    let s = a.self.now in
    has_counted (table_of s.facts.now) s.words.now a.at s.allowance a.nodes a.depth c.if-self-at.false c.if-depth-eq0.false _ _ _ c.in-Has.ensures c.present-in-Has.ensures c.counted-in-Has.ensures

pub visit_condition-returns-in_err-arm-in-Not : goal.visit_condition-returns-in_err-arm-in-Not
visit_condition-returns-in_err-arm-in-Not t c =
    let a = c.args in
    let s = a.self.now in
    not_counted (table_of s.facts.now) s.words.now a.at s.allowance a.nodes a.depth c.if-self-at.false c.if-depth-eq0.false _ _ c.in-Not.ensures (rw c.in_err-arm-in-Not.was at c.visit_condition.ensures) c.from_residual.ensures

pub visit_condition-returns-in_ok-arm-in-Not : goal.visit_condition-returns-in_ok-arm-in-Not
visit_condition-returns-in_ok-arm-in-Not t c =
    let a = c.args in
    let s = a.self.now in
    not_counted (table_of s.facts.now) s.words.now a.at s.allowance a.nodes a.depth c.if-self-at.false c.if-depth-eq0.false _ _ c.in-Not.ensures (rw c.in_ok-arm-in-Not.was at c.visit_condition.ensures) refl

pub visit_condition-returns-in-All-eq0 : goal.visit_condition-returns-in-All-eq0
visit_condition-returns-in-All-eq0 t c =
    let a = c.args in
    let s = a.self.now in
    all_none (table_of s.facts.now) s.words.now a.at s.allowance a.nodes a.depth c.if-self-at.false c.if-depth-eq0.false _ _ c.in-All-eq0.ensures (omega arith) c.counted-in-All-eq0.ensures

pub visit_condition-returns-in-All : goal.visit_condition-returns-in-All
visit_condition-returns-in-All t c =
    let a = c.args in
    let s = a.self.now in
    all_counted (table_of s.facts.now) s.words.now a.at s.allowance a.nodes a.depth c.if-self-at.false c.if-depth-eq0.false _ _ c.in-All.ensures c.in-All.arms-test.1 c.visit_conditions.ensures

pub visit_condition-returns-in-Any : goal.visit_condition-returns-in-Any
visit_condition-returns-in-Any t c =
    let a = c.args in
    let s = a.self.now in
    any_counted (table_of s.facts.now) s.words.now a.at s.allowance a.nodes a.depth c.if-self-at.false c.if-depth-eq0.false _ _ c.in-Any.ensures c.visit_conditions-in-Any.ensures

pub visit_condition-returns-in-BadKind : goal.visit_condition-returns-in-BadKind
visit_condition-returns-in-BadKind t c =
    let a = c.args in
    let s = a.self.now in
    elim c.in-BadKind.is [
      | inl e ↦ bad_kind (table_of s.facts.now) s.words.now a.at s.allowance a.nodes a.depth c.if-self-at.false c.if-depth-eq0.false _ (sym e ∙ c.condition_head.ensures)
      | inr e ↦ bad_field (table_of s.facts.now) s.words.now a.at s.allowance a.nodes a.depth c.if-self-at.false c.if-depth-eq0.false _ (sym e ∙ c.condition_head.ensures)
    ]

pub visit_conditions-loop-left-init : goal.visit_conditions-loop-left-init
visit_conditions-loop-left-init t c = record { goes = λ r k. k }

pub visit_conditions-returns-in_err-arm : goal.visit_conditions-returns-in_err-arm
visit_conditions-returns-in_err-arm t c =
    let a = c.args in
    let s = a.self.now in
    let loop = c.loop-left in
    rw c.from_residual.ensures (loop.invariant.goes _ (conditions_over a.stop (table_of s.facts.now) s.words.now a.depth s.allowance loop.next loop.left loop.count (λ z. omega arith) (rw c.in_err-arm.was at c.visit_condition.ensures)))

pub visit_conditions-returns-then-arm-stop : goal.visit_conditions-returns-then-arm-stop
visit_conditions-returns-then-arm-stop t c =
    let a = c.args in
    let s = a.self.now in
    let loop = c.loop-left in
    loop.invariant.goes _ (conditions_stop a.stop (table_of s.facts.now) s.words.now a.depth s.allowance loop.next loop.left loop.count (λ z. omega arith) _ _ (rw c.in_ok-arm.was at c.visit_condition.ensures) c.if-arm-stop.true _ c.skip_conditions-end.ensures c.counted.ensures)

pub visit_conditions-loop-left-preserved : goal.visit_conditions-loop-left-preserved
visit_conditions-loop-left-preserved t c =
    let a = c.args in
    let s = a.self.now in
    let loop = c.loop-left in
    record { goes = λ r k. loop.invariant.goes r (conditions_more a.stop (table_of s.facts.now) s.words.now a.depth s.allowance loop.next loop.left loop.count (λ z. omega arith) _ r (rw c.in_ok-arm.was at c.visit_condition.ensures) c.if-arm-stop.false k) }

pub visit_conditions-returns : goal.visit_conditions-returns
visit_conditions-returns t c =
    let a = c.args in
    let s = a.self.now in
    let loop = c.loop-left in
    loop.invariant.goes _ (conditions_none a.stop (table_of s.facts.now) s.words.now a.depth s.allowance loop.next loop.left loop.count _ (omega arith) c.counted-2.ensures)

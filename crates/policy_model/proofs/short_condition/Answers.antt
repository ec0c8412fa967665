-- `policy_model::short_condition` meets its contract: what is counted is read. Assumes nothing.
use mathlib.Core.Path.{◌≡◌, sym, ◌∙◌, ap}
use Prim.Native.Nat.{◌+◌, ◌-◌, ◌<◌}
use native.Mathlib.Omega.{arith}
use lib.ListN.{length, drop}
use Rattle.policy_model.specs.Short.{counted}
use Rattle.policy_model.proofs.Short.{counts_on, few_on, nothing_due, counted_reads}
use Rattle.policy_model.proofs.short_condition.Goals as goal
use Rattle.policy_model.proofs.short_condition.Goals.{After-from-levels}

-- A node that was passed: what is due after it ends where the condition does.
passed : (c : After-from-levels) →
    counted (drop (c.loop-next.next + 1) c.args.words.now) (c.loop-next.next + 1) (c.loop-next.due - 1 + c.arms_of-arms.result) (c.loop-next.levels - c.from-levels.result)
    ≡ counted (drop c.args.at c.args.words.now) c.args.at 1 c.args.depth
passed c =
    let l = c.loop-next in
    let inside : l.next < length c.args.words.now = omega arith in
    counts_on c.args.words.now l.next l.due l.levels c.arms_of-arms.result c.from-levels.result inside c.if-levels-eq0.false l.invariant.some
    (sym c.is_condition.ensures ∙ c.if-not-is_condition.false) c.arms_of-arms.ensures c.from-levels.ensures
    ∙ l.invariant.same

pub returns-then-due-eq0 : goal.returns-then-due-eq0
returns-then-due-eq0 c =
    let after = c.loop-next.next + 1 in
    let left = c.loop-next.levels - c.from-levels.result in
    counted_reads c.args.words.now c.args.at c.args.depth after
    (sym (nothing_due (drop after c.args.words.now) after left) ∙ ap (λ n. counted (drop after c.args.words.now) after n left) (sym c.if-due-eq0.true)
    ∙ passed (goal.at.returns-then-due-eq0 c).After-from-levels)

pub loop-next-preserved : goal.loop-next-preserved
loop-next-preserved c =
    let l = c.loop-next in
    record {
      same = passed (goal.at.loop-next-preserved c).After-from-levels;
      some = omega arith;
      few = few_on l.due l.levels c.arms_of-arms.result c.from-levels.result c.from-levels.ensures l.invariant.some c.if-levels-eq0.false c.arms_of-arms.type_inv l.invariant.few;
    }

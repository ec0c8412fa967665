-- `Walk::eval_condition` meets its contract: by the turns of the walk. Assumes nothing.
use mathlib.Core.Path.{refl, sym, ◌∙◌}
use mathlib.Core.Logic.{⊎_elim}
use Prim.Native.Nat.{◌<◌}
use native.Mathlib.Omega.{arith}
use lib.ListN.{length-set, replicate}
use Rattle.policy_model.specs.declared.ConditionHead.TheVariants.{Has}
use Rattle.condition.specs.declared.OpenNode.TheVariants.{Not}
use Rattle.condition.proofs.Evaluating.{below_head}
use Rattle.condition.proofs.Walking.{walk_begins, walk_ends, no_word, no_level, node_closed, node_more, node_value, node_has, node_open, has_head}
use Rattle.condition.proofs.Walk.eval_condition.Goals as goal
use Rattle.condition.proofs.Walk.eval_condition.Goals.{in-Value, in-Has, in-Open}

pub loop-value-init : goal.loop-value-init
loop-value-init c = (λ r t k. walk_begins _ _ _ (replicate 32 Not) _ _ r t k, omega arith, refl)

pub returns-then-level-eq0 : goal.returns-then-level-eq0
returns-then-level-eq0 c =
    let loop = c.loop-value in
    loop.invariant.0 _ _ (rw c.in-Some.is (walk_ends _ _ _ _ _ _ _ c.if-level-eq0.true))

pub loop-value-preserved-in-Some-after_arm : goal.loop-value-preserved-in-Some-after_arm
loop-value-preserved-in-Some-after_arm c =
    let loop = c.loop-value in (
      λ r t k.
          loop.invariant.0 r t (rw c.in-Some.is
          (node_closed _ _ _ _ _ _ _ r t _ (omega (arith, c.if-level-eq0.false)) _ _ _ _ loop.invariant.1 (rw c.in-Some-after_arm.is at c.after_arm.ensures) k)),
      omega arith,
      simp length-set loop.invariant.2,
    )

pub loop-value-preserved-in-None-after_arm : goal.loop-value-preserved-in-None-after_arm
loop-value-preserved-in-None-after_arm c =
    let loop = c.loop-value in (
      λ r t k.
          loop.invariant.0 r t (rw c.in-Some.is
          (node_more _ _ _ _ _ _ _ r t _ (omega (arith, c.if-level-eq0.false)) _ _ (omega arith) (rw c.in-None-after_arm.is at c.after_arm.ensures) k)),
      loop.invariant.1,
      simp length-set loop.invariant.2,
    )

pub returns-then-self-next : goal.returns-then-self-next
returns-then-self-next c =
    c.loop-value.invariant.0 _ _ (rw c.in-None.is
    (⊎_elim (λ w. no_word _ _ _ _ _ _ _ _ _ w) (λ w. no_level _ _ _ _ _ _ _ _ _ w.1) c.then-self-next.either))

pub eval_has-requires : goal.eval_has-requires
eval_has-requires c =
    below_head (Has _) _ (has_head _ _ (sym c.in-Has.is ∙ c.node_of.ensures))

pub loop-value-preserved : goal.loop-value-preserved
loop-value-preserved c =
    let loop = c.loop-value in
    let deep : loop.level < c.args.depth = c.if-depth-level.false in
    elim c.match-node_of.branch [
      | in-Value w ↦ rw (w.consulted-is, w.above-is, w.level-is, w.value-is) (
        λ r t k.
            loop.invariant.0 r t (rw c.in-None.is
            (node_value _ _ _ _ _ _ _ r t c.if-self-next.false deep _ (sym w.in-Value.is ∙ c.node_of.ensures) k)),
        loop.invariant.1,
        loop.invariant.2,
      )
      | in-Has w ↦ rw (w.consulted-is, w.above-is, w.level-is, w.value-is) (
        λ r t k.
            loop.invariant.0 r t (rw c.in-None.is
            (node_has _ _ _ _ _ _ _ r t c.if-self-next.false deep _ _ _ (sym w.in-Has.is ∙ c.node_of.ensures) w.eval_has.ensures k)),
        loop.invariant.1,
        loop.invariant.2,
      )
      | in-Open w ↦ rw (w.consulted-is, w.above-is, w.level-is, w.value-is) (
        λ r t k.
            loop.invariant.0 r t (rw c.in-None.is
            (node_open _ _ _ _ _ _ _ r t c.if-self-next.false deep _ (omega (arith, c.requires)) (sym w.in-Open.is ∙ c.node_of.ensures) (rw c.in-None.is at k))),
        omega arith,
        simp length-set loop.invariant.2,
      )
    ]

-- `required::collect_condition_facts`, which calls itself for each child, meets its contract. The depth falls with each call, and the arms that are left with each turn. Assumes nothing.
use Prim.Native.Nat.{◌-◌}
use native.Mathlib.Omega.{arith}
use Rattle.required.proofs.Conditions.{onward_more_c}
use Rattle.required.proofs.+collect_condition_facts.Goals as goal

pub loop-preserved : goal.loop-preserved
loop-preserved t c = (
  omega (arith, c.loop.invariant.0, c.collect_condition_facts-child.ensures.forward),
  onward_more_c (c.args.depth - 1) _ _ _ _ _ _ _ _ _ c.loop-test.true c.collect_condition_facts-child.ensures.facts c.loop.invariant.1,
)

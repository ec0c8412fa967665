-- `required::collect_condition_facts`, which calls itself for each child, meets its contract. The depth falls with each call, and the arms that are left with each turn. Assumes nothing.
use Prim.Native.Nat.{◌-◌, ◌≤◌}
use Rattle.required.specs.Arms.{OnwardC}
use Rattle.required.proofs.+collect_condition_facts.Given as goal

abbrev pub decreases-collect_condition_facts : goal.decreases-collect_condition_facts
decreases-collect_condition_facts l = l.depth

abbrev pub invariant-loop : goal.invariant-loop
invariant-loop l = (l.at ≤ l.next) × OnwardC (l.depth - 1) l.words l.initial.next l.end l.initial.grown l.next (l.end - l.counter) l.grown

-- `policy_model::short_condition` meets its contract. The loop's invariant: the nodes that are due end where the condition does; some are due, and few.
-- Assumes nothing.
use mathlib.Core.Path.{◌≡◌}
use Prim.Native.Nat.{◌+◌, ◌*◌, ◌≤◌, ◌<◌}
use lib.ListN.{drop}
use Rattle.policy_model.specs.Short.{counted}
use Rattle.policy_model.proofs.short_condition.Given as goal

abbrev pub invariant-loop-next : goal.invariant-loop-next
invariant-loop-next l = record {
  same : counted (drop l.next l.words) l.next l.due l.levels ≡ counted (drop l.at l.words) l.at 1 l.depth;
  some : 0 < l.due;
  few : l.due + 4294967296 * l.levels ≤ 4294967296 * 33;
}

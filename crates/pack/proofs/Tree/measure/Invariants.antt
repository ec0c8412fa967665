-- `pack::Tree::measure` meets its contract: a node without lists is told by its first word. Assumes nothing.
use mathlib.Core.Path.{◌≡◌}
use Prim.Native.Nat.{◌+◌, ◌-◌, ◌*◌, ◌≤◌}
use lib.ListN.{length, drop}
use Rattle.pack.specs.Flat.{flat}
use Rattle.pack.specs.Places.{nodes}
use Rattle.pack.proofs.Tree.measure.Given as goal

abbrev pub invariant-loop-at : goal.invariant-loop-at
invariant-loop-at l = (l.size + length (flat (drop l.at l.words) 0) ≡ length (nodes l.self)) × (l.size ≤ 65536 * l.at) × (l.at ≤ 20481)

abbrev pub decreases-loop-at : goal.decreases-loop-at
decreases-loop-at l = length l.words - l.at

-- `required::count_ones` meets its contract: the numbers counted, and the bits of the numbers that are left. Assumes nothing.
use mathlib.Core.Path.{◌≡◌}
use Prim.Native.Nat.{◌+◌, ◌*◌, ◌≤◌}
use lib.ListN.{drop}
use Rattle.model.specs.Required.{ones}
use Rattle.required.proofs.count_ones.Given as goal

abbrev pub invariant-loop-number : goal.invariant-loop-number
invariant-loop-number l = (l.count ≤ 64 * l.number-index) × (l.count + ones (drop l.number-index l.set) ≡ ones l.set)

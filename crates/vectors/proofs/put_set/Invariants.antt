-- `vectors::put_set` meets its contract. The loop's invariant: halves of the set's numbers stand before what stood there. Assumes nothing.
use mathlib.Core.Path.{◌≡◌}
use mathlib.Core.List.{◌++◌}
use Prim.Native.Nat.{◌*◌}
use lib.ListN.{drop, length}
use Rattle.laws.specs.FieldAt.{firsts}
use Rattle.vectors.specs.Words.{half_at}
use Rattle.vectors.proofs.put_set.Given as goal

abbrev pub invariant-loop-i : goal.invariant-loop-i
invariant-loop-i l = (length l.out ≡ 32) × (l.out ≡ firsts (half_at l.set) (2 * l.i) ++ drop (2 * l.i) l.initial.out)

-- `vectors::fill` meets its contract. The loop's invariant: marks stand before what stood there. Assumes nothing.
use mathlib.Core.Path.{◌≡◌}
use mathlib.Core.List.{◌++◌}
use lib.ListN.{drop}
use Rattle.vectors.specs.Words.{marks}
use Rattle.vectors.proofs.fill.Given as goal

abbrev pub invariant-loop-i : goal.invariant-loop-i
invariant-loop-i l = l.out ≡ marks l.i ++ drop l.i l.initial.out

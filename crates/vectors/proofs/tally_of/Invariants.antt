-- `vectors::tally_of` meets its contract. The loop's invariant: what is left gives what all give. Assumes nothing.
use Prim.Native.Nat.{◌+◌, ◌-◌}
use lib.ListN.{length}
use Rattle.vectors.proofs.Tallying.{Sofar}
use Rattle.vectors.proofs.tally_of.Given as goal

abbrev pub invariant-loop-before : goal.invariant-loop-before
invariant-loop-before l = Sofar l.call l.cases l.at (l.before + 1) (length l.cases - l.before) l.tally

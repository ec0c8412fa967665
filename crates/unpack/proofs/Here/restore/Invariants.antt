-- `restore` of Here meets its contract: one node more in each turn. Assumes nothing.
use Prim.Native.Nat.{◌-◌}
use Rattle.unpack.specs.Places.{whole}
use Rattle.unpack.proofs.Restoring.{Restoring}
use Rattle.unpack.proofs.Here.restore.Given as goal

abbrev pub invariant-loop-at : goal.invariant-loop-at
invariant-loop-at l = Restoring (whole l.self) l.initial.out l.out l.self.at l.end l.at l.to

abbrev pub decreases-loop-at : goal.decreases-loop-at
decreases-loop-at l = l.end - l.at

-- `join::Tables::write_joined` meets its contract: one byte more in each turn. Assumes nothing.
use Rattle.std.proofs.Common.{length, take}
use Rattle.model.specs.Join.{joined_bytes}
use Rattle.packing.specs.Written.{Sofar}
use Rattle.join.proofs.Tables.write_joined.Given as goal

abbrev pub invariant-loop-i : goal.invariant-loop-i
invariant-loop-i l = Sofar (take (length l.self.shorter.now) (joined_bytes l.self.longer.now l.self.shorter.now)) l.initial.out l.out l.i

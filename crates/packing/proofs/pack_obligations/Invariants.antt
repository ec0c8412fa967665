-- `packing::pack_obligations` meets its contract: one word more in each turn. Assumes nothing.
use Rattle.model.specs.Fields.{pack}
use Rattle.model.specs.Writing.{obligation_bits}
use Rattle.packing.specs.Written.{Sofar}
use Rattle.packing.proofs.pack_obligations.Given as goal

abbrev pub invariant-loop-j : goal.invariant-loop-j
invariant-loop-j l = Sofar (pack obligation_bits l.values) l.initial.out l.out l.j

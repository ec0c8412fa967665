-- `packing::pack_entries` meets its contract: one word more in each turn, and the last one after them. Assumes nothing.
use Rattle.model.specs.Fields.{pack}
use Rattle.model.specs.Writing.{entry_bits}
use Rattle.packing.specs.Written.{Sofar}
use Rattle.packing.proofs.pack_entries.Given as goal

abbrev pub invariant-loop-j : goal.invariant-loop-j
invariant-loop-j l = Sofar (pack entry_bits l.values) l.initial.out l.out l.j

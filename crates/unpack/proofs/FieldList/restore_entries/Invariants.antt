-- `restore_entries` of FieldList meets its contract: one word more in each turn. Assumes nothing.
use mathlib.Core.Path.{◌≡◌}
use Rattle.model.specs.Fields.{words_for}
use Rattle.packing.specs.Written.{Sofar}
use Rattle.unpack.specs.Places.{rest}
use Rattle.unpack.specs.Nodes.{entry_words}
use Rattle.unpack.proofs.FieldList.restore_entries.Given as goal

abbrev pub invariant-loop-j : goal.invariant-loop-j
invariant-loop-j l = (l.words ≡ words_for 2 l.self.count) × Sofar (entry_words l.self.width l.self.count (rest l.self.here)) l.initial.out l.out l.j

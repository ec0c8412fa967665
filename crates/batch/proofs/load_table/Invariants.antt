-- `batch::load_table` meets its contract. The loop's invariant: the bytes of the words so far stand at the start. Assumes nothing.
use mathlib.Core.Path.{◌≡◌}
use Prim.Native.Nat.{◌*◌}
use lib.ListN.{take, length as list_length}
use Rattle.model.specs.Batch.{bytes_of, table_words}
use Rattle.batch.proofs.load_table.Given as goal

abbrev pub invariant-loop-i : goal.invariant-loop-i
invariant-loop-i l = (list_length l.bytes ≡ 256) × (take (4 * l.i) l.bytes ≡ bytes_of (take l.i (take table_words l.words)))

-- `packing::pack_entries` meets its contract: one word more in each turn, and the last one after them. Assumes nothing.
use mathlib.Core.Path.{◌≡◌, ◌∙◌}
use Prim.Native.Nat.{◌/◌}
use native.Mathlib.Omega.{arith}
use lib.ListN.{length}
use Rattle.model.specs.Writing.{entry_bits}
use Rattle.packing.specs.PackedLaws.{packed_number}
use Rattle.packing.specs.WrittenLaws.{sofar_more, sofar_all}
use Rattle.packing.proofs.Parts.{entries_full, entries_last}
use Rattle.packing.proofs.pack_entries.Goals as goal

pub loop-j-preserved : goal.loop-j-preserved
loop-j-preserved c =
    let values = c.args.values.now in
    let j = c.loop-j.j in
    let long = packed_number entry_bits values in
    sofar_more _ _ _ j _ c.loop-j.invariant (omega arith) (omega arith) (c.entries_word.ensures ∙ entries_full values j (omega arith))

pub returns : goal.returns
returns c =
    let values = c.args.values.now in
    let long = packed_number entry_bits values in
    let last : c.loop-j.j ≡ length values / 2 = omega arith in
    let word = c.entries_word-2.ensures ∙ entries_last values c.if-count-eq0.false in
    (omega arith, sofar_all (sofar_more _ _ _ _ _ (rw last at c.loop-j.invariant) (omega arith) (omega arith) word) (long ∙ omega arith) (omega arith))

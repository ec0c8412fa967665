-- `packing::pack_obligations` meets its contract: one word more in each turn. Assumes nothing.
use native.Mathlib.Omega.{arith}
use Rattle.model.specs.Writing.{obligation_bits}
use Rattle.packing.specs.PackedLaws.{packed_number}
use Rattle.packing.specs.WrittenLaws.{sofar_more}
use Rattle.packing.proofs.Parts.{obligations_word}
use Rattle.packing.proofs.pack_obligations.Goals as goal

pub loop-j-preserved : goal.loop-j-preserved
loop-j-preserved c =
    let values = c.args.values.now in
    let j = c.loop-j.j in
    let long = packed_number obligation_bits values in
    let word =
    obligations_word values j (omega arith) c.value_at.ensures c.value_at-in-loop-j.ensures c.value_at-in-loop-j-2.ensures
    c.value_at-in-loop-j-3.ensures c.obligations_word.ensures in
    sofar_more _ _ _ j _ c.loop-j.invariant (omega arith) (omega arith) word

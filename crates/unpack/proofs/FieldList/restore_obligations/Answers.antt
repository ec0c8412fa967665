-- `restore_obligations` of FieldList meets its contract: one word more in each turn. Assumes nothing.
use mathlib.Core.Path.{◌∙◌, ap}
use native.Mathlib.Omega.{arith}
use Prim.Native.Nat.{◌*◌}
use lib.ListN.{drop}
use Rattle.model.specs.Fields.{joined, words_for}
use Rattle.laws.proofs.Lengths.{length_pack}
use Rattle.packing.specs.WrittenLaws.{sofar_more, sofar_all}
use Rattle.unpack.specs.Places.{rest}
use Rattle.unpack.specs.Nodes.{fields_in}
use Rattle.unpack.specs.FieldLaws.{length_fields}
use Rattle.unpack.proofs.Fields.{bits_here}
use Rattle.unpack.proofs.Groups.{owed, narrow_owed, owed_small, quad_word}
use Rattle.unpack.proofs.FieldList.restore_obligations.Goals as goal

pub obligation_word-requires : goal.obligation_word-requires
obligation_word-requires c =
    let bs = rest c.args.self.now.here in
    let j = c.loop-j.j in
    let count = c.args.self.now.count in
    let read = c.group.ensures ∙ ap (λ w. joined w 4 (drop (j * 4) (fields_in w count bs))) c.requires.0 in
    omega (arith, read, owed_small count bs (bits_here c.args.self.now.here) j)

pub loop-j-preserved : goal.loop-j-preserved
loop-j-preserved c =
    let l = c.loop-j in
    let bs = rest c.args.self.now.here in
    let vs = fields_in 6 c.args.self.now.count bs in
    let long = length_pack 8 vs ∙ ap (words_for 4) (length_fields 6 c.args.self.now.count bs) in
    let count = c.args.self.now.count in
    let h = bits_here c.args.self.now.here in
    let n = length_fields 6 count bs in
    let read = c.group.ensures ∙ ap (λ w. joined w 4 (drop (l.j * 4) (fields_in w count bs))) c.requires.0 in
    let inside = c.loop-j-test.true in (
      l.invariant.0,
      sofar_more _ _ _ l.j _ l.invariant.1 (omega (arith, long, l.invariant.0)) (omega (arith, long, c.requires.1))
          (c.obligation_word.ensures (owed count bs h l.j) (narrow_owed count bs h l.j) read ∙ quad_word count bs h l.j (omega (arith, n, l.invariant.0))),
    )

pub returns : goal.returns
returns c =
    let l = c.loop-j in
    let bs = rest c.args.self.now.here in
    let vs = fields_in 6 c.args.self.now.count bs in
    let long = length_pack 8 vs ∙ ap (words_for 4) (length_fields 6 c.args.self.now.count bs) in
    (omega (arith, l.invariant.0, l.auto.j-end, c.loop-j-test.false), sofar_all l.invariant.1 (omega (arith, long, l.invariant.0, l.auto.j-end, c.loop-j-test.false)) (omega arith))

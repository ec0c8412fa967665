-- `restore_entries` of FieldList meets its contract: one word more in each turn. Assumes nothing.
use mathlib.Core.Path.{◌∙◌, ap, ap₂}
use Prim.Native.Nat.{◌+◌, ◌*◌, ◌%◌}
use native.Mathlib.Omega.{arith}
use mathlib.Core.List.{map}
use lib.ListN.{length-map}
use Rattle.model.specs.Fields.{words_for}
use Rattle.laws.proofs.Lengths.{length_pack}
use Rattle.packing.specs.WrittenLaws.{sofar_more, sofar_all}
use Rattle.unpack.specs.Places.{rest}
use Rattle.unpack.specs.Nodes.{fields_in, loose_entry}
use Rattle.unpack.specs.FieldLaws.{length_fields}
use Rattle.unpack.proofs.Fields.{bits_here}
use Rattle.unpack.proofs.Groups.{power, pair_small, pair_word}
use Rattle.unpack.proofs.FieldList.restore_entries.Goals as goal

pub entry-requires : goal.entry-requires
entry-requires c =
    (pair_small c.args.self.now.width c.args.self.now.count (c.loop-j.j * 2) (rest c.args.self.now.here) c.group-pair.result (bits_here c.args.self.now.here) c.args.self.now.narrow c.group-pair.ensures).0

pub entry-requires-in-loop-j : goal.entry-requires-in-loop-j
entry-requires-in-loop-j c =
    rw (power c.args.self.now.width c.args.self.now.narrow) (pair_small c.args.self.now.width c.args.self.now.count (c.loop-j.j * 2) (rest c.args.self.now.here) c.group-pair.result (bits_here c.args.self.now.here) c.args.self.now.narrow c.group-pair.ensures).1

pub loop-j-preserved : goal.loop-j-preserved
loop-j-preserved c =
    let l = c.loop-j in
    let bs = rest c.args.self.now.here in
    let fs = fields_in c.args.self.now.width c.args.self.now.count bs in
    let vs = map loose_entry fs in
    let n = length-map fs loose_entry ∙ length_fields c.args.self.now.width c.args.self.now.count bs in
    let long = length_pack 16 vs ∙ ap (words_for 2) n in
    let inside = c.loop-j-test.true in (
      l.invariant.0,
      sofar_more _ _ _ l.j _ l.invariant.1 (omega (arith, long, l.invariant.0)) (omega (arith, long, c.requires))
          (ap₂ (λ x y. x * 65536 + y) c.entry.ensures.is (c.entry-in-loop-j.ensures.is ∙ ap (λ x. loose_entry (c.group-pair.result % x)) (power c.args.self.now.width c.args.self.now.narrow))
          ∙ pair_word c.args.self.now.width c.args.self.now.count bs l.j c.group-pair.result (bits_here c.args.self.now.here) (omega (arith, n, l.invariant.0)) c.group-pair.ensures),
    )

pub returns : goal.returns
returns c =
    let l = c.loop-j in
    let bs = rest c.args.self.now.here in
    let fs = fields_in c.args.self.now.width c.args.self.now.count bs in
    let vs = map loose_entry fs in
    let long = length_pack 16 vs ∙ ap (words_for 2) (length-map fs loose_entry ∙ length_fields c.args.self.now.width c.args.self.now.count bs) in
    (omega (arith, l.invariant.0, l.auto.j-end, c.loop-j-test.false), sofar_all l.invariant.1 (omega (arith, long, l.invariant.0, l.auto.j-end, c.loop-j-test.false)) (omega arith))

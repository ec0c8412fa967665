-- `join::Tables::write_joined` meets its contract. Assumes nothing.
use mathlib.Core.Path.{sym, ◌∙◌}
use native.Mathlib.Omega.{arith}
use lib.ListN.{length}
use lib.Seq.{get_or-take}
use Rattle.model.specs.Join.{joined_bytes}
use Rattle.packing.specs.WrittenLaws.{sofar_more}
use Rattle.join.specs.JoiningLaws.{joined_at, part_long}
use Rattle.join.proofs.Tables.write_joined.Goals as goal

pub loop-i-preserved : goal.loop-i-preserved
loop-i-preserved c =
    let longer = c.args.self.now.longer.now in
    let shorter = c.args.self.now.shorter.now in
    let i = c.loop-i.i in
    let less = c.args.self.now.ordered in
    let long = part_long longer shorter less in
    sofar_more _ _ _ i _ c.loop-i.invariant (omega arith) (omega (arith, c.requires.1))
    (c.join_byte.ensures ∙ sym (get_or-take (length shorter) (joined_bytes longer shorter) i 0 (omega arith) ∙ joined_at i longer shorter (omega arith) less))

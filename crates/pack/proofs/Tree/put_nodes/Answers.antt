-- `pack::Tree::put_nodes` meets its contract: one node more in each turn. Assumes nothing.
use Rattle.std.proofs.Common.{arith}
use Rattle.pack.proofs.Putting.{no_node, room_plain, goes_plain, room_node, goes_on, all_nodes}
use Rattle.pack.proofs.Tree.put_nodes.Goals as goal

pub loop-at-init : goal.loop-at-init
loop-at-init c = no_node c.requires

pub put_plain-to-requires : goal.put_plain-to-requires
put_plain-to-requires c = (c.in-Some.ensures.1, room_plain c.loop-at.invariant c.loop-at-test.true c.in-Some.ensures.0)

pub loop-at-preserved-in-Some : goal.loop-at-preserved-in-Some
loop-at-preserved-in-Some c = goes_plain c.loop-at.invariant c.loop-at-test.true c.in-Some.ensures.0 c.put_plain-to.ensures

pub put-to-requires : goal.put-to-requires
put-to-requires c = room_node c.loop-at.invariant c.loop-at-test.true

pub loop-at-preserved : goal.loop-at-preserved
loop-at-preserved c = goes_on c.loop-at.invariant c.loop-at-test.true c.put-to.ensures c.end-at.ensures.is

pub returns : goal.returns
returns c = all_nodes c.loop-at.invariant (omega (arith, c.loop-at-test.false))

-- `restore` of Here meets its contract: one node more in each turn. Assumes nothing.
use Rattle.std.proofs.Common.{arith}
use Rattle.laws.proofs.BitLaws.{length_run}
use Rattle.unpack.proofs.Fields.{plain_told}
use Rattle.unpack.proofs.Restoring.{room_list, room_plain, ends}
use Rattle.unpack.proofs.Here.restore.Goals as goal

pub restore_node-to-requires : goal.restore_node-to-requires
restore_node-to-requires c =
    let pre = c.requires in (
      omega (arith, pre.0, pre.2, c.loop-at-test.true, length_run c.args.self.now.bytes.now),
      c.node-node.ensures.small,
      room_list c.loop-at.invariant c.loop-at-test.true pre.2 _ c.bits-lead.ensures.is c.in-None.ensures _ c.node-node.ensures.is pre.3,
    )

pub bounds-out-to : goal.bounds-out-to
bounds-out-to c = room_plain c.loop-at.invariant c.loop-at-test.true c.requires.2 _ c.bits-lead.ensures.is _ c.in-Some.ensures c.requires.3

pub loop-at-smaller-in-Some : goal.loop-at-smaller-in-Some
loop-at-smaller-in-Some c = omega (arith, (plain_told _ _ c.in-Some.ensures).1, c.loop-at-test.true)

pub returns : goal.returns
returns c = ends c.loop-at.invariant (omega (arith, c.loop-at-test.false))

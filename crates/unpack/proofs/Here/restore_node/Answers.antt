-- `restore_node` of Here meets its contract: its first words, obligations, facts. Assumes nothing.
use Rattle.std.proofs.Common.{arith}
use Rattle.unpack.specs.Places.{whole}
use Rattle.packing.specs.WrittenLaws.{written_lent, written_same}
use Rattle.unpack.proofs.Restoring.{node_parts}
use Rattle.unpack.proofs.Here.restore_node.Goals as goal

pub returns : goal.returns
returns c = (
  omega (arith, c.restore_fixed-a.ensures.number, c.restore_obligations.ensures.0, c.restore_entries.ensures.0),
  written_same (written_lent (written_lent c.restore_fixed-a.ensures c.restore_obligations.ensures.1) c.restore_entries.ensures.1) (node_parts c.args.node (whole c.args.self.now) c.args.self.now.at),
)

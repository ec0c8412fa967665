-- `record::write_permit_with_trace` meets its contract: the front, and then the obligations and the facts, each into the tail. Assumes nothing.
use mathlib.Core.List.{append_assoc}
use native.Mathlib.Omega.{arith}
use lib.ListN.{length}
use Rattle.model.specs.Fields.{pack}
use Rattle.model.specs.Writing.{obligation_bits, entry_bits}
use Rattle.packing.specs.WrittenLaws.{written_lent, written_same}
use Rattle.record.specs.Nodes.{permit_front}
use Rattle.record.proofs.write_permit_with_trace.Goals as goal

pub returns : goal.returns
returns c =
    let args = c.args in
    let first = permit_front args.outcome (length args.obligations.now) args.label (length args.facts.now) in
    let front = c.write_permit_front-behind.ensures in
    let obligations = c.pack_obligations.ensures in
    let facts = c.pack_entries.ensures in (
      omega (arith, front.0, obligations.0, facts.0),
      written_same (written_lent (written_lent {words = first} front.1 obligations.1) facts.1)
          (append_assoc first (pack obligation_bits args.obligations.now) (pack entry_bits args.facts.now)),
    )

-- `pack::Node::put_grant` meets its contract: one field after the other. Assumes nothing.
use Rattle.std.proofs.Common.{◌≡◌, [], ◌∷◌, List, ℕ, ◌/◌, ◌%◌, ◌++◌, sym, arith}
use Rattle.bits.specs.Splice.{low}
use Rattle.pack.specs.Flat.{mark_run}
use Rattle.pack.specs.Places.{first, second, obligations, grant}
use Rattle.pack.specs.declared.Node.{Node}
use Rattle.bits.specs.declared.Cursor.{Cursor}
use Rattle.pack.specs.Room.{RoomFor}
use Rattle.pack.proofs.Putting.{Parts, parted, next, last, room_part, room_field}
use Rattle.pack.proofs.Node.put_grant.Goals as goal

-- By its first and second word, as the code has them.
fields : (node : Node) {w v : ℕ} {out : List ℕ} {from : Cursor} → w ≡ first node → v ≡ second node → RoomFor (grant node) out from →
    Parts (grant node) out from (low 12 (w / 1048576) ∷ low 16 w ∷ mark_run (v / 65536) ∷ mark_run (v % 65536) ∷ obligations node ∷ []) out from
fields node d e r = parted _ (λ i. low 12 (sym d i / 1048576) ++ (low 16 (sym d i) ++ (mark_run (sym e i / 65536) ++ (mark_run (sym e i % 65536) ++ obligations node)))) r

pub put_bits-lead-requires : goal.put_bits-lead-requires
put_bits-lead-requires c = room_field 12 _ (fields c.args.self.now c.first-word.ensures c.second-second.ensures c.requires) (omega arith)

pub put_bits-outcome-requires : goal.put_bits-outcome-requires
put_bits-outcome-requires c = room_field 16 _ (next (fields c.args.self.now c.first-word.ensures c.second-second.ensures c.requires) c.put_bits-lead.ensures) (omega arith)

pub put_mark-label-requires : goal.put_mark-label-requires
put_mark-label-requires c = room_part (next (next (fields c.args.self.now c.first-word.ensures c.second-second.ensures c.requires) c.put_bits-lead.ensures) c.put_bits-outcome.ensures)

pub put_mark-reason-requires : goal.put_mark-reason-requires
put_mark-reason-requires c = room_part (next (next (next (fields c.args.self.now c.first-word.ensures c.second-second.ensures c.requires) c.put_bits-lead.ensures) c.put_bits-outcome.ensures) c.put_mark-label.ensures)

pub put_obligations-requires : goal.put_obligations-requires
put_obligations-requires c = room_part (next (next (next (next (fields c.args.self.now c.first-word.ensures c.second-second.ensures c.requires) c.put_bits-lead.ensures) c.put_bits-outcome.ensures) c.put_mark-label.ensures) c.put_mark-reason.ensures)

pub returns : goal.returns
returns c = last (next (next (next (next (fields c.args.self.now c.first-word.ensures c.second-second.ensures c.requires) c.put_bits-lead.ensures) c.put_bits-outcome.ensures) c.put_mark-label.ensures) c.put_mark-reason.ensures) c.put_obligations.ensures

-- `pack::Node::put_deny_trace` meets its contract: one field after the other. Assumes nothing.
use Rattle.std.proofs.Common.{◌≡◌, refl, [], ◌∷◌, ◌++◌, List, ℕ, ◌/◌, ◌%◌, sym, ◌∙◌, ap, arith}
use Rattle.bits.specs.Splice.{low}
use Rattle.bits.specs.Widths.{denied_width}
use Rattle.bits.specs.WidthLaws.{denied_few}
use Rattle.pack.specs.Flat.{list_run, entry_in, mark_run}
use Rattle.pack.specs.Places.{first, second, third, after, deny}
use Rattle.pack.specs.declared.Node.{Node}
use Rattle.bits.specs.declared.Cursor.{Cursor}
use Rattle.pack.specs.Room.{RoomFor}
use Rattle.pack.proofs.Putting.{Parts, parted, next, last, room_part, room_field}
use Rattle.pack.proofs.Node.put_deny_trace.Goals as goal

-- By its words and the width of its outcome, as the code has them.
fields : (node : Node) {w v t d : ℕ} {out : List ℕ} {from : Cursor} → w ≡ first node → v ≡ second node → t ≡ third node → d ≡ denied_width w → RoomFor (deny node) out from →
    Parts (deny node) out from
    (low 6 (w / 67108864) ∷ low d w ∷ mark_run (v / 65536) ∷ mark_run (v % 65536) ∷ low 12 t ∷ list_run (entry_in (after node 3)) 10 (t % 4096) ∷ []) out from
fields node d e f g r =
    let width = g ∙ ap denied_width d in
    parted _
    (λ i. low 6 (sym d i / 67108864) ++ (low (sym width i) (sym d i) ++ (mark_run (sym e i / 65536) ++ (mark_run (sym e i % 65536) ++ (low 12 (sym f i) ++ list_run (entry_in (after node 3)) 10 (sym f i % 4096))))))
    r

pub put_bits-lead-requires : goal.put_bits-lead-requires
put_bits-lead-requires c = room_field 6 _ (fields c.args.self.now c.first-word.ensures c.second-second.ensures c.third-third.ensures refl c.requires) (omega arith)

pub put_bits-outcome-requires : goal.put_bits-outcome-requires
put_bits-outcome-requires c = room_field _ _ (next (fields c.args.self.now c.first-word.ensures c.second-second.ensures c.third-third.ensures c.denied_bits.ensures c.requires) c.put_bits-lead.ensures) (omega (arith, c.denied_bits.ensures, denied_few c.first-word.result))

pub put_mark-label-requires : goal.put_mark-label-requires
put_mark-label-requires c = room_part (next (next (fields c.args.self.now c.first-word.ensures c.second-second.ensures c.third-third.ensures c.denied_bits.ensures c.requires) c.put_bits-lead.ensures) c.put_bits-outcome.ensures)

pub put_mark-reason-requires : goal.put_mark-reason-requires
put_mark-reason-requires c = room_part (next (next (next (fields c.args.self.now c.first-word.ensures c.second-second.ensures c.third-third.ensures c.denied_bits.ensures c.requires) c.put_bits-lead.ensures) c.put_bits-outcome.ensures) c.put_mark-label.ensures)

pub put_bits-count-requires : goal.put_bits-count-requires
put_bits-count-requires c = room_field 12 _ (next (next (next (next (fields c.args.self.now c.first-word.ensures c.second-second.ensures c.third-third.ensures c.denied_bits.ensures c.requires) c.put_bits-lead.ensures) c.put_bits-outcome.ensures) c.put_mark-label.ensures) c.put_mark-reason.ensures) (omega arith)

pub put_entries-requires : goal.put_entries-requires
put_entries-requires c = (omega (arith, c.args.self.now.inside, c.args.self.now.few), omega arith, room_part (next (next (next (next (next (fields c.args.self.now c.first-word.ensures c.second-second.ensures c.third-third.ensures c.denied_bits.ensures c.requires) c.put_bits-lead.ensures) c.put_bits-outcome.ensures) c.put_mark-label.ensures) c.put_mark-reason.ensures) c.put_bits-count.ensures))

pub returns : goal.returns
returns c = last (next (next (next (next (next (fields c.args.self.now c.first-word.ensures c.second-second.ensures c.third-third.ensures c.denied_bits.ensures c.requires) c.put_bits-lead.ensures) c.put_bits-outcome.ensures) c.put_mark-label.ensures) c.put_mark-reason.ensures) c.put_bits-count.ensures) c.put_entries.ensures

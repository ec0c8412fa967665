-- `pack::Node::put_permit_trace` meets its contract: one field after the other. Assumes nothing.
use Rattle.std.proofs.Common.{◌≡◌, refl, [], ◌∷◌, ◌++◌, List, ℕ, ◌+◌, ◌%◌, ◌/◌, sym, ◌∙◌, ap, arith, drop, drop-drop}
use Rattle.model.specs.Fields.{words_for}
use Rattle.bits.specs.Splice.{low}
use Rattle.pack.specs.Flat.{list_run, entry_in, owed_in, mark_run}
use Rattle.pack.specs.Places.{first, second, after, obligations, permit}
use Rattle.pack.specs.declared.Node.{Node}
use Rattle.bits.specs.declared.Cursor.{Cursor}
use Rattle.pack.specs.Room.{RoomFor}
use Rattle.pack.proofs.Putting.{Parts, parted, next, last, room_part, room_field}
use Rattle.pack.proofs.Node.put_permit_trace.Goals as goal

-- By its first and second word and its count of obligations, as the code has them, and by where its facts begin.
fields : (node : Node) {w v n begin : ℕ} {out : List ℕ} {from : Cursor} → w ≡ first node → v ≡ second node → n ≡ owed_in (first node) → begin ≡ words_for 4 n → RoomFor (permit node) out from →
    Parts (permit node) out from
    (low 11 (1536 + n) ∷ low 16 w ∷ mark_run (v / 65536) ∷ low 12 v ∷ obligations node ∷ list_run (entry_in (drop (node.at + 2 + begin) node.words.now)) 10 (v % 4096) ∷ []) out from
fields node {begin = begin} d e f g r =
    let facts : drop (words_for 4 (owed_in (first node))) (after node 2) ≡ drop (node.at + 2 + begin) node.words.now =
    drop-drop (words_for 4 (owed_in (first node))) (node.at + 2) node.words.now ∙ ap (λ k. drop (node.at + 2 + k) node.words.now) (sym (g ∙ ap (words_for 4) f)) in
    parted _
    (λ i. low 11 (1536 + sym f i) ++ (low 16 (sym d i) ++ (mark_run (sym e i / 65536) ++ (low 12 (sym e i) ++ (obligations node ++ list_run (entry_in (facts i)) 10 (sym e i % 4096))))))
    r

pub put_bits-lead-requires : goal.put_bits-lead-requires
put_bits-lead-requires c = room_field 11 _ (fields c.args.self.now refl c.second-second.ensures c.obligations-owed.ensures refl c.requires) (omega arith)

pub put_bits-outcome-requires : goal.put_bits-outcome-requires
put_bits-outcome-requires c = room_field 16 _ (next (fields c.args.self.now c.first.ensures c.second-second.ensures c.obligations-owed.ensures refl c.requires) c.put_bits-lead.ensures) (omega arith)

pub put_mark-label-requires : goal.put_mark-label-requires
put_mark-label-requires c = room_part (next (next (fields c.args.self.now c.first.ensures c.second-second.ensures c.obligations-owed.ensures refl c.requires) c.put_bits-lead.ensures) c.put_bits-outcome.ensures)

pub put_bits-count-requires : goal.put_bits-count-requires
put_bits-count-requires c = room_field 12 _ (next (next (next (fields c.args.self.now c.first.ensures c.second-second.ensures c.obligations-owed.ensures refl c.requires) c.put_bits-lead.ensures) c.put_bits-outcome.ensures) c.put_mark-label.ensures) (omega arith)

pub put_obligations-obligations-requires : goal.put_obligations-obligations-requires
put_obligations-obligations-requires c = room_part (next (next (next (next (fields c.args.self.now c.first.ensures c.second-second.ensures c.obligations-owed.ensures refl c.requires) c.put_bits-lead.ensures) c.put_bits-outcome.ensures) c.put_mark-label.ensures) c.put_bits-count.ensures)

pub put_entries-requires : goal.put_entries-requires
put_entries-requires c = (omega (arith, c.args.self.now.inside, c.args.self.now.few, c.obligation_words.ensures, c.obligations-owed.ensures), omega arith, room_part (next (next (next (next (next (fields c.args.self.now c.first.ensures c.second-second.ensures c.obligations-owed.ensures c.obligation_words.ensures c.requires) c.put_bits-lead.ensures) c.put_bits-outcome.ensures) c.put_mark-label.ensures) c.put_bits-count.ensures) c.put_obligations-obligations.ensures))

pub returns : goal.returns
returns c = last (next (next (next (next (next (fields c.args.self.now c.first.ensures c.second-second.ensures c.obligations-owed.ensures c.obligation_words.ensures c.requires) c.put_bits-lead.ensures) c.put_bits-outcome.ensures) c.put_mark-label.ensures) c.put_bits-count.ensures) c.put_obligations-obligations.ensures) c.put_entries.ensures

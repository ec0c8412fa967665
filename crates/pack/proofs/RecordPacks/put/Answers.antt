-- `put` of Record meets its contract: the lead, the entries, the tree. Assumes nothing.
use Rattle.std.proofs.Common.{List, [], ◌∷◌, ℕ, ◌/◌, arith, drop, get_or}
use Rattle.bits.specs.declared.Cursor.{Cursor}
use Rattle.bits.specs.Splice.{low}
use Rattle.pack.specs.Flat.{list_run, entry_in, flat, record_run}
use Rattle.pack.specs.FlatLaws.{record_parts}
use Rattle.pack.specs.Room.{RoomFor, room_begins}
use Rattle.pack.proofs.Putting.{Parts, parted, next, last, room_part, room_field, put_whole}
use Rattle.pack.proofs.RecordPacks.put.Goals as goal

fields : (ws : List ℕ) (count tree : ℕ) {out : List ℕ} {from : Cursor} → RoomFor (record_run ws count tree) out from → Parts (record_run ws count tree) out from (low 16 (get_or ws 0 0 / 65536) ∷ low 16 (get_or ws 0 0) ∷ list_run (entry_in (drop 1 ws)) 12 count ∷ flat (drop tree ws) 0 ∷ []) out from
fields ws count tree r = parted _ (record_parts ws count tree) r

pub put_bits-first-requires : goal.put_bits-first-requires
put_bits-first-requires c = let s = c.args.self.now in room_field 16 _ (fields s.tree.words.now s.consulted s.tree.from (room_begins c.requires)) (omega arith)

pub put_bits-second-requires : goal.put_bits-second-requires
put_bits-second-requires c = let s = c.args.self.now in room_field 16 _ (next (fields s.tree.words.now s.consulted s.tree.from (room_begins c.requires)) c.put_bits-first.ensures) (omega arith)

pub put_entries-consulted-requires : goal.put_entries-consulted-requires
put_entries-consulted-requires c = let s = c.args.self.now in (omega arith, omega arith, room_part (next (next (fields s.tree.words.now s.consulted s.tree.from (room_begins c.requires)) c.put_bits-first.ensures) c.put_bits-second.ensures))

pub put_nodes-requires : goal.put_nodes-requires
put_nodes-requires c = let s = c.args.self.now in room_part (next (next (next (fields s.tree.words.now s.consulted s.tree.from (room_begins c.requires)) c.put_bits-first.ensures) c.put_bits-second.ensures) c.put_entries-consulted.ensures)

pub returns : goal.returns
returns c =
    let s = c.args.self.now in
    put_whole (last (next (next (next (fields s.tree.words.now s.consulted s.tree.from (room_begins c.requires)) c.put_bits-first.ensures) c.put_bits-second.ensures) c.put_entries-consulted.ensures) c.put_nodes.ensures)

-- While a run of bits is put: what was put, and what is left of it. Assumes nothing.
use Rattle.std.specs.Prelude.{◌≡◌, refl, List, [], ◌∷◌, ◌++◌, ℕ, ◌+◌, ◌*◌, ◌≤◌, ◌<◌, length, drop, get_or}
use Rattle.std.proofs.Common.{sym, ◌∙◌, ap, subst, append_assoc, append-nil, arith}
use Rattle.policy_model.specs.Span.{own_of}
use Rattle.bits.specs.Splice.{low, Spliced}
use Rattle.bits.specs.SpliceLaws.{then_spliced, same_spliced}
use Rattle.bits.specs.declared.Cursor.{Cursor}
use Rattle.bits.specs.Cursors.{FieldRoom, Put}
use Rattle.pack.specs.Flat.{plain_run, Plain, node_run, flat}
use Rattle.pack.specs.FlatLaws.{own_plain, flat_step, flat_end, node_plain}
use Rattle.pack.specs.Room.{RoomFor, room_last, room_first, room_next, room_here, none_put, same_room}

-- ---- what was put, in other words, and two runs one after the other
pub same_put : {bs cs before after : List ℕ} {from to : Cursor} → bs ≡ cs → Put bs before from after to → Put cs before from after to
same_put e p = record { spliced = same_spliced e p.spliced; begun = p.begun }

pub then_put : {bs cs before between after : List ℕ} {from mid to : Cursor} → Put bs before from between mid → Put cs between mid after to → from.at ≤ 8 * length before → Put (bs ++ cs) before from after to
then_put p q h = record { spliced = then_spliced p.spliced q.spliced h; begun = q.begun }

-- From the first bit on.
pub put_whole : {bs before after : List ℕ} {to : Cursor} → Put bs before (record { at = 0; begun = 0 }) after to → Spliced before after 0 bs (length bs)
put_whole {bs} {before} {after} {to} p =
    let end : to.at ≡ length bs = omega (arith, p.spliced.next) in
    subst (λ n. Spliced before after 0 bs n) end p.spliced

-- ---- a run, of which some was put
pub record Putting (run before : List ℕ) (from : Cursor) (rest now : List ℕ) (to : Cursor) : Type 0 where
  pub done : List ℕ
  pub put : Put done before from now to
  pub left : done ++ rest ≡ run
  pub room : RoomFor rest now to

pub begins : {run out : List ℕ} {from : Cursor} → RoomFor run out from → Putting run out from run out from
begins r = record { done = []; put = none_put r; left = refl; room = r }

module _ {run before now : List ℕ} {from to : Cursor} where
  room_begun : {rest : List ℕ} → Putting run before from rest now to → from.at ≤ 8 * length before
  room_begun p = let s = p.put.spliced in omega (arith, s.next, s.long, room_here p.room)

  -- What comes first of the rest was put, and all of it.
  pub goes : (xs ys : List ℕ) {after : List ℕ} {end : Cursor} → Putting run before from (xs ++ ys) now to → Put xs now to after end → Putting run before from ys after end
  goes xs ys p s =
      record {
        done = p.done ++ xs;
        put = then_put p.put s (room_begun p);
        left = append_assoc p.done xs ys ∙ p.left;
        room = room_next s ys p.room;
      }

  pub ends : (xs : List ℕ) {after : List ℕ} {end : Cursor} → Putting run before from xs now to → Put xs now to after end → Put run before from after end
  ends xs p s = same_put p.left (then_put p.put s (room_begun p))

  pub same_rest : {xs ys : List ℕ} → xs ≡ ys → Putting run before from xs now to → Putting run before from ys now to
  same_rest e p = subst (λ l. Putting run before from l now to) e p

-- ---- the parts of a run, one after the other
abbrev pub joint : List (List ℕ) → List ℕ
joint [] = []
joint (x ∷ []) = x
joint (x ∷ (y ∷ l)) = x ++ joint (y ∷ l)

pub record Parts (run before : List ℕ) (from : Cursor) (parts : List (List ℕ)) (now : List ℕ) (to : Cursor) : Type 0 where
  pub it : Putting run before from (joint parts) now to

pub parted : {run out : List ℕ} {from : Cursor} (parts : List (List ℕ)) → run ≡ joint parts → RoomFor run out from → Parts run out from parts out from
parted parts e r = record { it = same_rest e (begins r) }

module _ {run before now : List ℕ} {from to : Cursor} where
  pub next : {x y : List ℕ} {l : List (List ℕ)} {after : List ℕ} {end : Cursor} → Parts run before from (x ∷ (y ∷ l)) now to → Put x now to after end → Parts run before from (y ∷ l) after end
  next {x} {y} {l} p s = record { it = goes x (joint (y ∷ l)) p.it s }

  pub last : {x after : List ℕ} {end : Cursor} → Parts run before from (x ∷ []) now to → Put x now to after end → Put run before from after end
  last {x} p s = ends x p.it s

  -- The room for the first part: any, and a field.
  pub room_part : {x : List ℕ} {l : List (List ℕ)} → Parts run before from (x ∷ l) now to → RoomFor x now to
  room_part {x} {l = []} p = p.it.room
  room_part {x} {l = y ∷ l} p = room_first x (joint (y ∷ l)) p.it.room

  pub room_field : (w v : ℕ) {l : List (List ℕ)} → Parts run before from (low w v ∷ l) now to → w ≤ 25 → (w ≤ 25) × FieldRoom w now to
  room_field w v p n = room_last w v now to n (room_part p)

-- ---- nodes, one after the other
pub record Nodes (words : List ℕ) (first : ℕ) (before : List ℕ) (from : Cursor) (at : ℕ) (now : List ℕ) (to : Cursor) : Type 0 where
  pub it : Putting (flat (drop first words) 0) before from (flat (drop at words) 0) now to

pub no_node : {words out : List ℕ} {first : ℕ} {from : Cursor} → RoomFor (flat (drop first words) 0) out from → Nodes words first out from first out from
no_node r = record { it = begins r }

module _ {words before now : List ℕ} {first at : ℕ} {from to : Cursor} (p : Nodes words first before from at now to) where
  abbrev after : ℕ → List ℕ
  after own = flat (drop (at + 1 + own) words) 0

  abbrev own : ℕ
  own = own_of (get_or words at 0) (drop (at + 1) words)

  first_node : at < length words → Putting (flat (drop first words) 0) before from (node_run words at ++ after own) now to
  first_node h = same_rest (flat_step words at h) p.it

  pub room_node : at < length words → RoomFor (node_run words at) now to
  room_node h = room_first (node_run words at) (after own) (first_node h).room

  pub goes_on : {then : List ℕ} {end : Cursor} {next : ℕ} → at < length words → Put (node_run words at) now to then end → next ≡ at + 1 + own → Nodes words first before from next then end
  goes_on h s e = record { it = same_rest (ap (λ n. flat (drop n words) 0) (sym e)) (goes (node_run words at) (after own) (first_node h) s) }

  -- A node without lists has one word.
  pub room_plain : at < length words → Plain (get_or words at 0) → RoomFor (plain_run (get_or words at 0)) now to
  room_plain h plain = same_room (node_plain words at plain.0 plain.1 plain.2) (room_node h)

  pub goes_plain : {then : List ℕ} {end : Cursor} → at < length words → Plain (get_or words at 0) → Put (plain_run (get_or words at 0)) now to then end → Nodes words first before from (at + 1) then end
  goes_plain h plain s =
      goes_on h (same_put (sym (node_plain words at plain.0 plain.1 plain.2)) s) (omega (arith, own_plain (get_or words at 0) (drop (at + 1) words) plain))

  pub all_nodes : length words ≤ at → Put (flat (drop first words) 0) before from now to
  all_nodes h = let q = p.it in same_put (sym (append-nil q.done) ∙ ap (λ l. q.done ++ l) (sym (flat_end words at h)) ∙ q.left) q.put

-- What is needed to put bits: they fit the output from `at` on, no position is past what a number can say, and the other bits of the byte are 0.
use Rattle.std.specs.Prelude.{ℕ, ◌+◌, ◌*◌, ◌^◌, ◌≤◌, ◌<◌, ◌≡◌, refl, List, [], ◌++◌, length, take}
use Rattle.std.proofs.Common.{subst, sym, arith}
use Rattle.std.proofs.Common.{length-append}
use Rattle.model.specs.Bits.{run_of}
use Rattle.bits.specs.Splice.{low, whole, fill}
use Rattle.bits.specs.SpliceLaws.{length_low, low_of, spliced_clear}
use Rattle.bits.specs.declared.Cursor.{Cursor}
use Rattle.bits.specs.Cursors.{Begun, FieldRoom, Put}

pub record Room (at : ℕ) (bs : List ℕ) (out : List ℕ) : Type 0 where
  pub fits : at + length bs ≤ 8 * length out
  pub few : at + length bs < 2 ^ 62
  pub clear : take (whole at) (run_of out) ≡ take at (run_of out) ++ fill at

-- The same at a cursor, which has what is begun of its byte.
pub record RoomFor (bs out : List ℕ) (cursor : Cursor) : Type 0 where
  pub room : Room cursor.at bs out
  pub begun : Begun out cursor

-- At the first bit nothing is begun.
pub room_begins : {bs out : List ℕ} → Room 0 bs out → RoomFor bs out (record { at = 0; begun = 0 })
room_begins r = record { room = r; begun = record { kept = 0; is = refl; run = sym (low_of 0 0) } }

-- Room for a field, for what comes first, and for what follows once that was put.
pub room_last : (w v : ℕ) (out : List ℕ) (cursor : Cursor) → w ≤ 25 → RoomFor (low w v) out cursor → (w ≤ 25) × FieldRoom w out cursor
room_last w v out cursor n r =
    let b = length_low w v in
    let f = r.room.fits in
    let g = r.room.few in
    (n, record { fits = omega arith; few = omega arith; begun = r.begun })

-- By its width, as it is computed.
pub room_width : {w k : ℕ} {out : List ℕ} {cursor : Cursor} (v : ℕ) → k ≡ w → w ≤ 25 → RoomFor (low w v) out cursor → (k ≤ 25) × FieldRoom k out cursor
room_width {w} {k} {out} {cursor} v e n r = subst (λ x. (x ≤ 25) × FieldRoom x out cursor) (sym e) (room_last w v out cursor n r)

pub room_first : {out : List ℕ} {cursor : Cursor} (xs ys : List ℕ) → RoomFor (xs ++ ys) out cursor → RoomFor xs out cursor
room_first xs ys r =
    let a = length-append xs ys in
    let f = r.room.fits in
    let g = r.room.few in
    record { room = record { fits = omega arith; few = omega arith; clear = r.room.clear }; begun = r.begun }

pub room_next : {a b : List ℕ} {from to : Cursor} {xs : List ℕ} → Put xs a from b to → (ys : List ℕ) → RoomFor (xs ++ ys) a from → RoomFor ys b to
room_next {a} {b} {from} {to} {xs} p ys m =
    let s = p.spliced in
    let l = length-append xs ys in
    let n = s.next in
    let k = s.long in
    let f = m.room.fits in
    let g = m.room.few in
    record {
      room = record { fits = omega arith; few = omega arith; clear = spliced_clear s (omega arith) };
      begun = p.begun;
    }

-- Without a cursor: at the first bit, and for a field that comes first, also by its width as it is computed.
pub room_start : (bs out : List ℕ) → length bs ≤ 8 * length out → length bs < 2 ^ 62 → Room 0 bs out
room_start bs out h k = record { fits = omega arith; few = omega arith; clear = refl }

pub room_low : (w v at : ℕ) (bs out : List ℕ) → w ≤ 25 → Room at (low w v ++ bs) out → (w ≤ 25) × (at + w ≤ 8 * length out) × (at < 2 ^ 62)
room_low w v at bs out n r =
    let a = length-append (low w v) bs in
    let b = length_low w v in
    let f = r.fits in
    let g = r.few in
    (n, omega arith, omega arith)

pub room_low_as : (w u v at : ℕ) (bs out : List ℕ) → u ≡ w → w ≤ 25 → Room at (low w v ++ bs) out → (u ≤ 25) × (at + u ≤ 8 * length out) × (at < 2 ^ 62)
room_low_as w u v at bs out e n r = subst (λ x. (x ≤ 25) × (at + x ≤ 8 * length out) × (at < 2 ^ 62)) (sym e) (room_low w v at bs out n r)

-- Nothing is put.
pub none_put : {bs out : List ℕ} {cursor : Cursor} → RoomFor bs out cursor → Put [] out cursor out cursor
none_put r = record { spliced = record { next = omega arith; run = r.room.clear; long = refl }; begun = r.begun }

pub room_here : {bs out : List ℕ} {cursor : Cursor} → RoomFor bs out cursor → cursor.at ≤ 8 * length out
room_here r = let f = r.room.fits in omega arith

-- The same bits, said in another way.
pub same_room : {xs ys out : List ℕ} {cursor : Cursor} → xs ≡ ys → RoomFor xs out cursor → RoomFor ys out cursor
same_room {xs} {ys} {out} {cursor} e r = subst (λ l. RoomFor l out cursor) e r

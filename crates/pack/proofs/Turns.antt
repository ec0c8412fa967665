-- A list of values is put in turns of so many, and then what is left: how far each turn reaches, and what it puts. Assumes nothing.
use Rattle.std.specs.Prelude.{◌≡◌, ℕ, suc, ◌+◌, ◌-◌, ◌*◌, ◌/◌, ◌%◌, ◌≤◌, ◌<◌, List, ◌++◌, length}
use Rattle.std.proofs.Common.{sym, ◌∙◌, ap, subst, arith, suc-mul, mul-le-mul_left, mul-le-mul_right, div-add-mod', mod-lt}
use Rattle.bits.specs.declared.Cursor.{Cursor}
use Rattle.bits.specs.Splice.{low}
use Rattle.bits.specs.Cursors.{Begun, FieldRoom, Put}
use Rattle.pack.specs.Flat.{list_run}
use Rattle.pack.specs.FlatLaws.{length_list}
use Rattle.pack.specs.Groups.{group}
use Rattle.pack.specs.GroupLaws.{group_run}
use Rattle.pack.specs.Room.{RoomFor}
use Rattle.pack.proofs.Putting.{same_put, then_put}

-- ---- how far
module _ (per count : ℕ) where
  pub whole : count / per * per + count % per ≡ count
  whole = div-add-mod' count per

  pub turn_inside : (j : ℕ) → j < count / per → j * per + per ≤ count
  turn_inside j h =
      let top : suc j * per ≤ count / per * per = mul-le-mul_right per h in
      let s : suc j * per ≡ j * per + per = suc-mul j per in
      omega (arith, whole)

  pub left : 0 < per → per ≡ count % per + (per - count % per)
  left h = let m = mod-lt count h in omega arith

  module _ (w : ℕ) where
    pub parted : (i k : ℕ) → w * (i + k) ≡ w * i + w * k
    parted i k = native.Mathlib.Nat.mul-add w i k

    pub turn_fits : (j : ℕ) → j < count / per → w * (j * per) + w * per ≤ w * count
    turn_fits j h = subst (λ x. x ≤ w * count) (parted (j * per) per) (mul-le-mul_left w (turn_inside j h))

    pub last_fits : w * (count / per * per) + w * (count % per) ≡ w * count
    last_fits = sym (parted (count / per * per) (count % per)) ∙ ap (λ x. w * x) whole

    -- What is left is less than a turn.
    pub left_fits : 0 < per → w * (count % per) + w * (per - count % per) ≡ w * per
    left_fits h = sym (parted (count % per) (per - count % per)) ∙ ap (λ x. w * x) (sym (left h))

-- ---- room for n values after i
pub room_turn : {before now : List ℕ} {from to : Cursor} (w count i n : ℕ) → RoomFor (list_run (λ k. k) w count) before from → to.at ≡ from.at + w * i → length now ≡ length before → Begun now to → w * i + w * n ≤ w * count → FieldRoom (w * n) now to
room_turn w count i n r next long begun fits =
    let l = length_list (λ k. k) w count in
    let f = r.room.fits in
    let g = r.room.few in
    record { fits = omega arith; few = omega arith; begun = begun }

-- ---- n values after i
pub put_group : {before between after : List ℕ} {from mid to : Cursor} (f : ℕ → ℕ) (w i n v : ℕ) → v ≡ group f w i n → Put (list_run f w i) before from between mid → Put (low (w * n) v) between mid after to → from.at ≤ 8 * length before → Put (list_run f w (i + n)) before from after to
put_group f w i n v e p q h = same_put (ap (λ x. list_run f w i ++ low (w * n) x) e ∙ group_run f w i n) (then_put p q h)

-- `pack::put_list` meets its contract: one field more in each turn, and in the end what is left. Assumes nothing.
use Rattle.std.proofs.Common.{◌≡◌, ℕ, ◌+◌, ◌-◌, ◌*◌, ◌/◌, ◌%◌, ◌^◌, sym, ◌∙◌, ap, arith, suc-mul, add-one}
use Rattle.bits.specs.SpliceLaws.{length_low}
use Rattle.pack.specs.Flat.{list_run}
use Rattle.pack.specs.FlatLaws.{list_none}
use Rattle.pack.specs.Groups.{group}
use Rattle.pack.specs.GroupLaws.{group_front}
use Rattle.pack.specs.Room.{room_here, none_put}
use Rattle.pack.proofs.Turns.{whole, turn_inside, turn_fits, last_fits, left_fits, left, parted, room_turn, put_group}
use Rattle.pack.proofs.Putting.{same_put}
use Rattle.pack.proofs.put_list.Goals as goal

none_yet : (per : ℕ) → 0 * per ≡ 0
none_yet per = omega arith

one_more : (j per : ℕ) → j * per + per ≡ (j + 1) * per
one_more j per = sym (suc-mul j per) ∙ ap (λ n. n * per) (sym (add-one j))

pub loop-j-init : goal.loop-j-init
loop-j-init g c =
    let a = c.args in
    let room = c.requires.3 in
    let z : a.width * 0 ≡ 0 = omega arith in
    record {
      next = let e : a.width * (0 * a.per) ≡ 0 = ap (λ n. a.width * n) (none_yet a.per) ∙ z in omega arith;
      long = omega arith;
      begun = room.begun;
      put = λ f h. same_put (sym (ap (list_run f a.width) (none_yet a.per) ∙ list_none f a.width)) (none_put room);
    }

pub put_bits-to-requires : goal.put_bits-to-requires
put_bits-to-requires g c =
    let a = c.args in
    let l = c.loop-j in
    let inv = l.invariant in
    (c.requires.2, room_turn a.width a.count (l.j * a.per) a.per c.requires.3 inv.next inv.long inv.begun (turn_fits a.per a.count a.width l.j c.loop-j-test.true))

pub loop-j-preserved : goal.loop-j-preserved
loop-j-preserved g c =
    let a = c.args in
    let l = c.loop-j in
    let inv = l.invariant in
    let p = c.put_bits-to.ensures in
    let w = a.width in
    let i = l.j * a.per in
    let inside = turn_inside a.per a.count l.j c.loop-j-test.true in
    let more : w * i + w * a.per ≡ w * ((l.j + 1) * a.per) = sym (parted a.per a.count w i a.per) ∙ ap (λ n. w * n) (one_more l.j a.per) in
    record {
      next = omega (arith, inv.next, p.spliced.next, length_low (w * a.per) c.field.result, more);
      long = omega (arith, inv.long, p.spliced.long);
      begun = p.begun;
      put = λ f h.
          same_put (ap (list_run f w) (one_more l.j a.per))
          (put_group f w i a.per c.field.result (h i c.field.result (omega (arith, inside)) c.field.ensures) (inv.put f h) p (room_here c.requires.3));
    }

pub returns-then-left-eq0 : goal.returns-then-left-eq0
returns-then-left-eq0 g c =
    let a = c.args in
    let l = c.loop-j in
    let full : l.j ≡ a.count / a.per = omega (arith, l.auto.j-end, c.loop-j-test.false) in
    let all : l.j * a.per ≡ a.count = ap (λ n. n * a.per) full ∙ (let w = whole a.per a.count in omega (arith, c.if-left-eq0.true)) in
    λ f h. same_put (ap (list_run f a.width) all) (l.invariant.put f h)

pub put_bits-requires : goal.put_bits-requires
put_bits-requires g c =
    let a = c.args in
    let l = c.loop-j in
    let inv = l.invariant in
    let full : l.j ≡ a.count / a.per = omega (arith, l.auto.j-end, c.loop-j-test.false) in
    let fits : a.width * (l.j * a.per) + a.width * (a.count % a.per) ≡ a.width * a.count = ap (λ n. a.width * (n * a.per) + a.width * (a.count % a.per)) full ∙ last_fits a.per a.count a.width in
    (omega (arith, c.requires.2, left_fits a.per a.count a.width c.requires.1), room_turn a.width a.count (l.j * a.per) (a.count % a.per) c.requires.3 inv.next inv.long inv.begun (omega (arith, fits)))

pub returns : goal.returns
returns g c =
    let a = c.args in
    let l = c.loop-j in
    let w = a.width in
    let n = a.count % a.per in
    let m = a.per - n in
    let i = a.count / a.per * a.per in
    let v = c.field-last.result in
    let full : l.j ≡ a.count / a.per = omega (arith, l.auto.j-end, c.loop-j-test.false) in
    let per : a.per ≡ n + m = left a.per a.count c.requires.1 in
    λ f h.
    let field : v ≡ group f w i a.per = h i v (omega (arith, whole a.per a.count)) c.field-last.ensures in
    let front : v / 2 ^ (w * m) ≡ group f w i n = ap (λ x. x / 2 ^ (w * m)) (field ∙ ap (group f w i) per) ∙ group_front f w i n m in
    same_put (ap (list_run f w) (whole a.per a.count))
    (put_group f w i n (v / 2 ^ (w * m)) front (same_put (ap (λ x. list_run f w (x * a.per)) full) (l.invariant.put f h)) c.put_bits.ensures (room_here c.requires.3))

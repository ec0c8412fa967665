-- `vectors::put_set` meets its contract. Assumes nothing.
use mathlib.Core.Path.{◌≡◌, refl, sym, ap}
use mathlib.Core.Bool.{cond}
use Prim.Native.Nat.{ℕ, ◌+◌, ◌*◌, ◌/◌, ◌%◌}
use native.Mathlib.Omega.{arith}
use mathlib.Core.List.{List}
use lib.Bits.{bit_and, and_mask}
use lib.ListN.{get_or, length-set}
use Rattle.laws.specs.FieldAt.{firsts}
use borrow.Author.Tests.{ne_eqb}
use Rattle.listing.proofs.Words.{store_next}
use Rattle.vectors.specs.Words.{half_at, halves}
use Rattle.vectors.proofs.put_set.Goals as goal

pub returns-then-out : goal.returns-then-out
returns-then-out c = sym (ap (λ b. cond b (halves c.args.set.now) c.args.out.now) (ne_eqb _ _ c.if-out.true))

pub loop-i-init : goal.loop-i-init
unfolding firsts
loop-i-init c = (c.if-out.false, refl)

-- The two halves of the i-th number.
upper : (set : List ℕ) (i : ℕ) → get_or set i 0 / 4294967296 ≡ half_at set (2 * i)
upper set i =
    let place : 2 * i % 2 ≡ 0 = omega arith in
    let number : 2 * i / 2 ≡ i = omega arith in
    rw (place, number)

lower : (set : List ℕ) (i : ℕ) → bit_and (get_or set i 0) 4294967295 ≡ half_at set (2 * i + 1)
lower set i =
    let place : (2 * i + 1) % 2 ≡ 1 = omega arith in
    let number : (2 * i + 1) / 2 ≡ i = omega arith in
    rw (place, number) (and_mask (get_or set i 0) 32)

pub loop-i-preserved : goal.loop-i-preserved
loop-i-preserved c =
    let at = c.loop-i in
    let set = c.args.set.now in
    let first = store_next (half_at set) (2 * at.i) at.out c.args.out.now (omega arith) at.invariant.1 in
    let both = store_next (half_at set) (2 * at.i + 1) _ c.args.out.now (omega arith) first in
    let next : 2 * at.i + 1 + 1 ≡ 2 * (at.i + 1) = omega arith in
    (simp length-set at.invariant.0, rw (upper set at.i, lower set at.i, ← next) both)

-- `vectors::fill` meets its contract. The loop's invariant: marks stand before what stood there. Assumes nothing.
use mathlib.Core.Path.{refl}
use Prim.Native.Nat.{◌+◌}
use native.Mathlib.Omega.{arith}
use Rattle.laws.specs.FieldAt.{firsts}
use Rattle.listing.proofs.Words.{store_next}
use Rattle.vectors.proofs.Reading.{firsts_all}
use Rattle.vectors.proofs.fill.Goals as goal

pub loop-i-init : goal.loop-i-init
unfolding firsts
loop-i-init c = refl

pub loop-i-preserved : goal.loop-i-preserved
loop-i-preserved c =
    let at = c.loop-i in
    store_next (λ k. 0x0F0F0F0F + k) at.i at.out c.args.out.now (omega arith) at.invariant

pub returns : goal.returns
returns c =
    let at = c.loop-i in
    firsts_all (λ k. 0x0F0F0F0F + k) at.i at.out c.args.out.now (omega arith) at.invariant

-- `required::count_ones` meets its contract: the numbers counted, and the bits of the numbers that are left. Assumes nothing.
use borrow.Author.Rules.{rules}
use Prim.Native.Nat.{◌^◌, ◌<◌}
use native.Mathlib.Omega.{arith}
use lib.ListN.{get_or}
use lib.Count.{ones-le}
use Rattle.required.specs.CountLaws.{ones_next}
use Rattle.required.proofs.count_ones.Goals as goal

pub loop-number-preserved : goal.loop-number-preserved
loop-number-preserved c =
    let set = c.args.set.now in
    let i = c.loop-number.number-index in
    let x : get_or set i 0 < 2 ^ 64 = search rules in
    (omega (arith, ones-le 64 (get_or set i 0) x), omega (arith, ones_next set i (omega arith) x))

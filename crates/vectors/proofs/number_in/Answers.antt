-- `vectors::number_in` meets its contract: two bytes. Assumes nothing.
use Prim.Native.Nat.{◌*◌}
use native.Mathlib.Omega.{arith}
use Rattle.listing.specs.InputLaws.{number_two}
use Rattle.vectors.proofs.number_in.Goals as goal

pub returns : goal.returns
returns c =
    let args = c.args in
    let two = number_two (2 * args.place) args.case.now (omega arith) in
    let told = c.number_at.ensures.0 in
    (cc, c.number_at.ensures.1)

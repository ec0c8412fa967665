-- `bits::put_bits` meets its contract. Assumes nothing.
use Rattle.std.proofs.Common.{◌∙◌, ◌%◌, ◌*◌, ◌^◌, ◌-◌, ap, arith}
use Rattle.bits.specs.CursorLaws.{leading_computed}
use Rattle.bits.proofs.put_bits.Goals as goal

pub returns : goal.returns
returns c =
    let w = c.args.width in
    c.put_leading.ensures c.args.value (ap (λ x. (x * 2 ^ (32 - w)) % 2 ^ 64 % 2 ^ 32) c.from.ensures ∙ leading_computed w c.args.value (omega (arith, c.requires.0)) (omega arith))

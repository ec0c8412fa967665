-- `bits::bits_at` meets its contract: four bytes hold any field of at most 25 bits. Assumes nothing.
use Rattle.std.proofs.Common.{◌∙◌, ap₂, arith, ◌/◌, ◌%◌, ◌^◌, ◌-◌}
use Rattle.bits.specs.WindowLaws.{power, at_window}
use Rattle.bits.proofs.bits_at.Goals as goal

pub returns-clause-is : goal.returns-clause-is
returns-clause-is c =
    let a = c.args in
    let w = a.width in
    let f = c.from.ensures ∙ c.window_at.ensures.is in
    ap₂ (λ x m. x / 2 ^ (32 - a.at % 8 - w) % m) f (power w (omega (arith, c.requires))) ∙ at_window a.bytes.now a.at w c.window_at.ensures.bytes c.requires

-- `bits::put_leading` meets its contract. Assumes nothing.
use Rattle.std.proofs.Common.{refl, ap, ◌*◌, ◌^◌, ◌%◌, ◌+◌, ◌/◌, arith}
use Rattle.bits.specs.CursorLaws.{window_fits, put_done}
use Rattle.bits.proofs.put_leading.Goals as goal

pub overflow_add-window : goal.overflow_add-window
overflow_add-window c = omega (arith, window_fits c.args.out.now c.args.from c.args.width c.args.field c.requires.0 c.requires.1 (omega arith))

pub returns : goal.returns
returns c =
    let a = c.args in
    put_done a.out.now a.from a.width a.field c.requires.0 c.requires.1 c.put_bytes.new.out c.put_bytes.ensures _ refl
    (ap (λ x. (x * 2 ^ ((a.from.at % 8 + a.width) / 8 * 8)) % 2 ^ 64 % 2 ^ 32) c.from.ensures)

-- `vectors::size_of` meets its contract. Assumes nothing.
use mathlib.Core.Path.{sym, ap, ◌∙◌}
use Rattle.std.specs.Prelude.{Some}
use native.Mathlib.Omega.{arith}
use Rattle.vectors.proofs.Reading.{size_none, size_short, size_whole}
use Rattle.vectors.proofs.size_of.Goals as goal

pub returns-then-input-lt-NUMBERS : goal.returns-then-input-lt-NUMBERS
returns-then-input-lt-NUMBERS c = sym (size_none c.args.input.now c.if-input-lt-NUMBERS.true)

pub returns-then-input-size : goal.returns-then-input-size
returns-then-input-size c = sym (size_short c.args.input.now (omega arith) (omega arith))

pub returns-else-input-size : goal.returns-else-input-size
returns-else-input-size c = sym (size_whole c.args.input.now (omega arith) (omega arith) ∙ ap Some (omega arith))

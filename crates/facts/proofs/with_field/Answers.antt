-- `facts::with_field` meets its contract: what the field counts is taken away, and what the new value counts added. Assumes nothing.
use native.Mathlib.Omega.{arith}
use Rattle.facts.proofs.Setting.{placed}
use Rattle.facts.proofs.with_field.Goals as goal

pub overflow_sub-result : goal.overflow_sub-result
overflow_sub-result c = (placed c.args.byte c.args.place c.args.value (omega arith) (omega arith) (omega arith)).held

pub overflow_add-result : goal.overflow_add-result
overflow_add-result c =
    let k = placed c.args.byte c.args.place c.args.value (omega arith) (omega arith) (omega arith) in
    omega (arith, k.fits)

pub returns : goal.returns
returns c = (placed c.args.byte c.args.place c.args.value (omega arith) (omega arith) (omega arith)).fields

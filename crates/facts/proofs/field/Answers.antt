-- `facts::field` meets its contract: a shift by two bits for each place leaves the field lowest. Assumes nothing.
use mathlib.Core.Path.{sym}
use Prim.Native.Nat.{◌/◌}
use native.Mathlib.Omega.{arith}
use Rattle.facts.proofs.Fields.{field_by_shift, field_past_end}
use Rattle.facts.proofs.field.Goals as goal

pub returns-in-None : goal.returns-in-None
returns-in-None c = sym (field_past_end c.args.facts.now c.args.fact c.in-None.ensures.lookup.3)

pub returns-in-Some : goal.returns-in-Some
returns-in-Some c =
    rw (c.in-Some.ensures.lookup.3.1 0)
    (field_by_shift c.args.facts.now c.args.fact (omega (arith, c.type_inv.facts (c.args.fact / 4))))

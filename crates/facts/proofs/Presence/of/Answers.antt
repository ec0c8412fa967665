-- `facts::Presence::of` meets its contract: silent past the end, else by the three readings of a field. Assumes nothing.
use mathlib.Core.Path.{refl, sym}
use native.Mathlib.Omega.{arith}
use Rattle.facts.specs.AnswerLaws.{other_field}
use Rattle.facts.proofs.Fields.{table_in_lem, table_past}
use Rattle.facts.proofs.Presence.of.Goals as goal

pub returns-then-facts-fact : goal.returns-then-facts-fact
returns-then-facts-fact c = rw (table_past c.args.facts.now c.args.fact c.if-facts-fact.true) (record { seen = refl; number = refl })

pub returns-in-0 : goal.returns-in-0
returns-in-0 c =
    rw (table_in_lem c.args.facts.now c.args.fact c.if-facts-fact.false, sym c.field.ensures, c.in-0.is) (record { seen = refl; number = refl })

pub returns-in-1 : goal.returns-in-1
returns-in-1 c =
    rw (table_in_lem c.args.facts.now c.args.fact c.if-facts-fact.false, sym c.field.ensures, c.in-1.is) (record { seen = refl; number = refl })

pub returns-in_default : goal.returns-in_default
returns-in_default c =
    rw (table_in_lem c.args.facts.now c.args.fact c.if-facts-fact.false, sym c.field.ensures) (other_field c.field.result (omega arith) (omega arith))

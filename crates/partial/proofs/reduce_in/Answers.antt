-- `partial::reduce_in` meets its contract. Assumes nothing.
use native.Mathlib.Omega.{arith}
use Rattle.consulted.proofs.Listing.{no_facts}
use Rattle.partial.proofs.Reducing.{reduces_pending, reduces_resolved, reduces_from}
use Rattle.partial.proofs.reduce_in.Goals as goal

pub returns-in-Pending : goal.returns-in-Pending
returns-in-Pending g c =
    reduces_from c.load_consulted.ensures (no_facts _) (omega (arith, c.requires.0.listed_enough))
    (reduces_pending _ _ c.in_use-listed.ensures.listed c.requires.0.few_levels c.requires.0.levels_enough c.reduce_policy-reduced.ensures c.in-Pending.is (omega (arith, c.requires.1.enough)) (omega (arith, c.requires.1.enough)) c.put_pending.ensures)

pub returns-in-Resolved : goal.returns-in-Resolved
returns-in-Resolved g c =
    reduces_from c.load_consulted.ensures (no_facts _) (omega (arith, c.requires.0.listed_enough))
    (reduces_resolved _ _ c.in_use-listed.ensures.listed c.requires.0.few_levels c.requires.0.levels_enough c.reduce_policy-reduced.ensures c.in-Resolved.is c.put_record.ensures)

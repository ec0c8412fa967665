-- `completion::complete_in` meets its contract. Assumes nothing.
use native.Mathlib.Omega.{arith}
use Rattle.consulted.proofs.Listing.{no_facts}
use Rattle.completion.proofs.Completing.{completes}
use Rattle.completion.proofs.complete_in.Goals as goal

pub returns : goal.returns
returns g c =
    completes c.load_consulted.ensures (no_facts _) c.requires.few_levels c.requires.levels_enough (omega (arith, c.requires.listed_enough)) c.eval_policy-eval.ensures c.in_use.ensures.listed c.put_record.ensures

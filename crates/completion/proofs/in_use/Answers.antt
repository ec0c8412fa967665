-- `completion::in_use` meets its contract. Assumes nothing.
use native.Mathlib.Omega.{arith}
use Rattle.completion.proofs.Completing.{in_use_lem}
use Rattle.completion.proofs.in_use.Goals as goal

pub returns-clause-listed : goal.returns-clause-listed
returns-clause-listed c = in_use_lem _ (omega arith)

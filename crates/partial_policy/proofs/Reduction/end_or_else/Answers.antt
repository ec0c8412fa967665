-- `partial_policy::Reduction::end_or_else` meets its contract. Assumes nothing.
use native.Mathlib.Omega.{arith}
use Rattle.partial_policy.proofs.Parts.{or_else_put}
use Rattle.partial_policy.proofs.Reduction.end_or_else.Goals as goal

pub returns : goal.returns
returns c =
    rw c.put_first.ensures (or_else_put _ c.tail_from-from.ensures (omega arith) c.as_residual-size.ensures c.plus.ensures)

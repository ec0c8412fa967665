-- `partial_policy::Reduction::reduce_constant` meets its contract. Assumes nothing.
use mathlib.Core.Path.{refl}
use Rattle.partial_policy.proofs.Reduction.reduce_constant.Goals as goal

pub returns : goal.returns
returns c =
    rw c.resolved.ensures (record { eval = c.eval_policy-eval.result; is = refl; evaluates = c.eval_policy-eval.ensures })

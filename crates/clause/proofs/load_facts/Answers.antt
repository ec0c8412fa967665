-- `clause::load_facts` meets its contract: the list is too long, the words end before or in it, or each of its fields is copied. Assumes nothing.
use native.Mathlib.Omega.{arith}
use Rattle.clause.proofs.Lists.{load_all}
use Rattle.clause.proofs.load_facts.Goals as goal

pub returns : goal.returns
returns c = load_all _ _ _ _ _ _ (omega arith) c.loop-i.invariant (omega arith)

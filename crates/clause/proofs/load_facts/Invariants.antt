-- `clause::load_facts` meets its contract. The loop's invariant: the first i fields are copied. Assumes nothing.
use Rattle.clause.proofs.Lists.{Loading}
use Rattle.clause.proofs.load_facts.Given as goal

abbrev pub invariant-loop-i : goal.invariant-loop-i
invariant-loop-i l = Loading l.words l.at l.count l.initial.out l.out l.i

-- `completion::load_consulted` meets its contract. The loop's invariant: the first i entries are listed. Assumes nothing.
use Rattle.consulted.specs.Listing.{held}
use Rattle.completion.proofs.Loading.{Loading}
use Rattle.completion.proofs.load_consulted.Given as goal

abbrev pub invariant-loop-i : goal.invariant-loop-i
invariant-loop-i l = Loading l.words l.prior (held l.initial.consulted) (held l.consulted) l.i

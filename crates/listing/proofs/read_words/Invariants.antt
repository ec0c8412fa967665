-- `listing::read_words` meets its contract. The loop's invariant: the words passed stand in the output, before what stood there. Assumes nothing.
use mathlib.Core.Path.{◌≡◌}
use mathlib.Core.List.{◌++◌}
use lib.ListN.{drop}
use Rattle.listing.specs.Inputs.{words_in}
use Rattle.listing.proofs.read_words.Given as goal

abbrev pub invariant-loop-i : goal.invariant-loop-i
invariant-loop-i l = l.out ≡ words_in l.input 0 l.i ++ drop l.i l.fn.out

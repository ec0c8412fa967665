-- `questions::carries` meets its contract: the nodes from `next` on have an obligation exactly if the tree has. The words that are
-- left fall with each turn. Assumes nothing.
use mathlib.Core.Path.{◌≡◌}
use Prim.Native.Nat.{◌-◌}
use lib.ListN.{length, drop}
use Rattle.model.specs.Policy.{Policy}
use Rattle.model.specs.Required.{obliges}
use Rattle.model.specs.Products.{Outcome}
use Rattle.questions.specs.Answers.{Stands}
use Rattle.questions.specs.Nodes.{words_oblige}
use Rattle.questions.proofs.carries.Given as goal

abbrev pub invariant-loop-next : goal.invariant-loop-next
invariant-loop-next l = (t : Policy Outcome) → Stands l.words l.at t → words_oblige (drop l.next l.words) 0 ≡ obliges t

abbrev pub decreases-loop-next : goal.decreases-loop-next
decreases-loop-next l = length l.words - l.next

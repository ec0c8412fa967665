-- `batch::is_whole` meets its contract. The loop's invariant: the list is whole exactly where what is left of it is. Assumes nothing.
use mathlib.Core.Path.{◌≡◌}
use lib.ListN.{length}
use Rattle.model.specs.Batch.{handed_over}
use Rattle.batch.specs.Answers.{is_whole}
use Rattle.batch.proofs.is_whole.Given as goal

abbrev pub invariant-loop-lead : goal.invariant-loop-lead
invariant-loop-lead l = is_whole (handed_over l.sheets) ≡ is_whole (handed_over l.rest)

abbrev pub decreases-loop-lead : goal.decreases-loop-lead
decreases-loop-lead l = length l.rest

-- `batch::find_sheet` meets its contract. The loop's invariant: the first of the number is the first in what is left of the list. Assumes nothing.
use mathlib.Core.Path.{◌≡◌}
use lib.ListN.{length}
use Rattle.model.specs.Batch.{sheet_of}
use Rattle.batch.specs.Answers.{whole_sheets}
use Rattle.batch.proofs.find_sheet.Given as goal

abbrev pub invariant-loop-lead : goal.invariant-loop-lead
invariant-loop-lead l = sheet_of l.number (whole_sheets l.sheets) ≡ sheet_of l.number (whole_sheets l.rest)

abbrev pub decreases-loop-lead : goal.decreases-loop-lead
decreases-loop-lead l = length l.rest

-- `batch::is_whole` meets its contract. The loop's invariant: the list is whole exactly where what is left of it is. Assumes nothing.
use mathlib.Core.Path.{sym, ◌∙◌, ap}
use Rattle.model.specs.Batch.{handed_over}
use Rattle.batch.specs.Answers.{is_whole}
use Rattle.batch.proofs.Handed.{next_sheet, whole_after}
use Rattle.batch.proofs.is_whole.Goals as goal

pub loop-lead-preserved : goal.loop-lead-preserved
loop-lead-preserved c =
    let parts = c.in-Some-split_at_checked.ensures.cases in
    c.loop-lead.invariant
    ∙ ap (λ l. is_whole (handed_over l)) c.in-Some.ensures.cases.0
    ∙ ap is_whole (next_sheet c.in-Some.lead.now c.in-Some.tail.now parts.0)
    ∙ whole_after _ _
    ∙ ap (λ l. is_whole (handed_over l)) (sym parts.2)

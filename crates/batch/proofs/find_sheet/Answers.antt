-- `batch::find_sheet` meets its contract. Assumes nothing.
use mathlib.Core.Path.{sym, ◌∙◌, ap}
use Rattle.model.specs.Batch.{sheet_of}
use Rattle.batch.specs.Answers.{whole_sheets}
use Rattle.batch.proofs.Handed.{next_whole, sought_later}
use Rattle.batch.proofs.find_sheet.Goals as goal

pub loop-lead-preserved : goal.loop-lead-preserved
loop-lead-preserved c =
    let number = c.args.number in
    let parts = c.in_ok-words.ensures.cases in
    c.loop-lead.invariant
    ∙ ap (λ l. sheet_of number (whole_sheets l)) c.in-Some.ensures.cases.0
    ∙ ap (sheet_of number) (next_whole c.in-Some.lead.now c.in-Some.tail.now parts.0)
    ∙ sought_later number _ _ c.if-lead-number.false
    ∙ ap (λ l. sheet_of number (whole_sheets l)) (sym parts.2)

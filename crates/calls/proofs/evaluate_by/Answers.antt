-- `calls::evaluate_by` meets its contract. Assumes nothing.
use native.Mathlib.Omega.{arith}
use Rattle.model.specs.Facts.{table_of, known_facts}
use Rattle.outcome.specs.Carried.{carried}
use Rattle.completion.specs.Answers.{completed_after}
use Rattle.calls.proofs.Judging.{passed_on}
use Rattle.calls.proofs.Sheets.{sheet_refused, sheet_made}
use Rattle.calls.proofs.evaluate_by.Goals as goal

pub returns-in_err-judge_sheet : goal.returns-in_err-judge_sheet
returns-in_err-judge_sheet c =
    let args = c.args in
    let g = carried args.outcomes in
    passed_on _ _ c.from_residual.ensures.1 (sheet_refused g known_facts args.number args.sheet.now args.facts.now (completed_after g (table_of args.facts.now)) args.out.now _ (c.in_err-judge_sheet.ensures _ c.most-most.ensures.counts))

pub returns : goal.returns
returns c =
    let args = c.args in
    let g = carried args.outcomes in
    sheet_made g known_facts args.number args.sheet.now args.facts.now (completed_after g (table_of args.facts.now)) args.out.now (omega arith) (c.in_ok-judge_sheet.ensures _ c.most-most.ensures.counts) c.decide-decided.ensures c.under_number.ensures

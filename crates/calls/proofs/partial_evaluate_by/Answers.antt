-- `calls::partial_evaluate_by` meets its contract. Assumes nothing.
use native.Mathlib.Omega.{arith}
use Rattle.model.specs.Facts.{table_of, partial_facts}
use Rattle.outcome.specs.Carried.{carried}
use Rattle.partial_policy.specs.Reducing.{order_of}
use Rattle.partial.specs.Answers.{reduced_after}
use Rattle.calls.proofs.Judging.{passed_on}
use Rattle.calls.proofs.Sheets.{sheet_refused, sheet_made}
use Rattle.calls.proofs.partial_evaluate_by.Goals as goal

pub returns-in_err-judge_sheet : goal.returns-in_err-judge_sheet
returns-in_err-judge_sheet c =
    let args = c.args in
    let g = carried args.outcomes in
    passed_on _ _ c.from_residual.ensures.1 (sheet_refused g partial_facts args.number args.sheet.now args.facts.now (reduced_after g (order_of args.order) (table_of args.facts.now)) args.out.now _ (c.in_err-judge_sheet.ensures _ c.most-most.ensures.counts))

pub returns : goal.returns
returns c =
    let args = c.args in
    let g = carried args.outcomes in
    sheet_made g partial_facts args.number args.sheet.now args.facts.now (reduced_after g (order_of args.order) (table_of args.facts.now)) args.out.now (omega arith) (c.in_ok-judge_sheet.ensures _ c.most-most.ensures.counts) c.reduce-reduced.ensures c.under_number.ensures

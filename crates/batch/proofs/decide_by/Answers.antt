-- `batch::decide_by` meets its contract: by what was judged, what was counted, and what the direct call would answer. Assumes nothing.
use native.Mathlib.Omega.{arith}
use Rattle.model.specs.Facts.{known_facts}
use Rattle.outcome.specs.Carried.{carried}
use Rattle.calls.proofs.Sheets.{sheet_few}
use Rattle.batch.proofs.Deciding.{refusal_passed, request_refused, request_over, request_written, request_unwritten}
use Rattle.batch.proofs.decide_by.Goals as goal

pub visits-requires : goal.visits-requires
visits-requires c =
    let args = c.args in
    sheet_few (carried args.outcomes) known_facts args.number args.sheet.now args.facts.now (c.in_ok-judge_sheet.ensures _ c.most-most.ensures.counts)

pub decide-written-requires : goal.decide-written-requires
decide-written-requires c =
    let args = c.args in
    sheet_few (carried args.outcomes) known_facts args.number args.sheet.now args.facts.now (c.in_ok-judge_sheet.ensures _ c.most-most.ensures.counts)

pub returns-in_err-judge_sheet : goal.returns-in_err-judge_sheet
returns-in_err-judge_sheet c =
    let args = c.args in
    refusal_passed _ _ c.from_residual.ensures.1 (request_refused (carried args.outcomes) args.number c.requires args.sheet.now args.facts.now args.allowance args.out.now _ (c.in_err-judge_sheet.ensures _ c.most-most.ensures.counts))

pub returns-in_default : goal.returns-in_default
returns-in_default c =
    let args = c.args in
    request_over (carried args.outcomes) args.number c.requires args.sheet.now args.facts.now args.allowance args.out.now (omega arith) (c.in_ok-judge_sheet.ensures _ c.most-most.ensures.counts) c.in_default.ensures

pub returns-in_err-words : goal.returns-in_err-words
returns-in_err-words c =
    let args = c.args in
    refusal_passed _ _ c.from_residual-in_err-words.ensures.1
    (request_unwritten (carried args.outcomes) args.number c.requires args.sheet.now args.facts.now args.allowance args.out.now (omega arith) (c.in_ok-judge_sheet.ensures _ c.most-most.ensures.counts) c.in-Some.nodes c.in-Some.ensures c.under_number.result
    c.decide-written.ensures c.under_number.ensures _ c.in_err-words.was)

pub returns : goal.returns
returns c =
    let args = c.args in
    request_written (carried args.outcomes) args.number c.requires args.sheet.now args.facts.now args.allowance args.out.now (omega arith) (c.in_ok-judge_sheet.ensures _ c.most-most.ensures.counts) c.in-Some.nodes c.in-Some.ensures c.under_number.result
    c.decide-written.ensures c.under_number.ensures _ c.in_ok-words.was

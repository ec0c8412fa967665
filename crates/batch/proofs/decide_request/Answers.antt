-- `batch::decide_request` meets its contract. Assumes nothing.
use mathlib.Core.Path.{◌∙◌, ap}
use native.Mathlib.Omega.{arith}
use mathlib.Core.Option.{some}
use Prim.Native.Nat.{◌%◌}
use lib.ListN.{length, take, drop, get_or}
use Rattle.model.specs.Levels.{outcomes_of}
use Rattle.model.specs.Batch.{table_words, table_in, request_of, decide_by}
use Rattle.outcome.specs.Carried.{carried}
use Rattle.batch.specs.Answers.{handed, Replies}
use lib.Seq.{take-take}
use Rattle.batch.proofs.Requests.{same_table, refused_table, good_length, bad_length, long_request}
use Rattle.batch.proofs.Deciding.{refusal_passed, request_refused}
use Rattle.batch.proofs.decide_request.Goals as goal
use Rattle.batch.proofs.decide_request.Goals.{After-decide_by}

pub returns-in_err-judge_length : goal.returns-in_err-judge_length
returns-in_err-judge_length c =
    let args = c.args in
    refusal_passed _ _ c.from_residual.ensures.1
    (request_refused (carried args.outcomes) args.number c.requires args.sheet.now (request_of args.request.now).facts args.allowance args.out.now _
    (bad_length (carried args.outcomes) args.number args.sheet.now (request_of args.request.now).facts _ c.in_err-judge_length.ensures))

pub returns-then-length-gt-TABLE_BYTES : goal.returns-then-length-gt-TABLE_BYTES
returns-then-length-gt-TABLE_BYTES c =
    let args = c.args in
    refused_table (outcomes_of (carried args.outcomes)) args.number args.sheet.now (request_of args.request.now).facts args.allowance args.out.now
    (good_length args.sheet.now c.in_ok-judge_length.ensures) (long_request args.request.now (omega arith) c.if-length-gt-TABLE_BYTES.true)

-- The reply is by the request's table. It is stated by itself: inside the answer the checker computes both contracts and runs out of steps.
by_request : (c : After-decide_by) →
    let args = c.args in
    Replies (decide_by (outcomes_of (carried args.outcomes)) (some (handed args.number args.sheet.now)) (request_of args.request.now).facts args.allowance (length args.out.now)) args.out.now c.decide_by.new.out c.decide_by.result
by_request c =
    let args = c.args in
    let n = get_or args.request.now 0 0 % 16777216 in
    same_table (outcomes_of (carried args.outcomes)) args.number args.sheet.now (take n c.load_table.new.bytes) args.allowance args.out.now
    (c.load_table.ensures.0 ∙ ap (table_in n) (take-take table_words table_words (drop 2 args.request.now) (omega arith))) c.decide_by.ensures

pub returns : goal.returns
returns c = by_request (goal.at.returns c).After-decide_by

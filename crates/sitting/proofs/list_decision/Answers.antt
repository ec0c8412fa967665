-- `sitting::list_decision` meets its contract: by what the call answers. Assumes nothing.
use mathlib.Core.Path.{sym}
use borrow.Author.Rules.{rules}
use lib.Seq.{length-take-le}
use Rattle.sitting.proofs.Deciding.{cases, list_refused, list_written, words_within}
use Rattle.sitting.proofs.list_decision.Goals as goal
use Rattle.sitting.proofs.list_decision.Goals.{In-Ok}

pub slice_bounds-record-end : goal.slice_bounds-record-end
slice_bounds-record-end c = words_within c.args.sheet.now c.args.facts.now _ c.evaluate.ensures c.in-Ok.is (cases c.args.sheet.now c.args.facts.now _ c.requires.0 c.requires.1 (search rules))

pub slice_bounds-list_record-end : goal.slice_bounds-list_record-end
slice_bounds-list_record-end c = sym (length-take-le _ _ (slice_bounds-record-end (goal.at.slice_bounds-list_record-end c).In-Ok))

pub returns-in-Ok : goal.returns-in-Ok
returns-in-Ok c = list_written c.args.sheet.now c.args.facts.now _ c.evaluate.ensures c.in-Ok.is (cases c.args.sheet.now c.args.facts.now _ c.requires.0 c.requires.1 (search rules)) c.list_record.ensures.listing

pub returns-in-Err : goal.returns-in-Err
returns-in-Err c = list_refused c.args.sheet.now c.args.facts.now _ c.evaluate.ensures c.in-Err.is (cases c.args.sheet.now c.args.facts.now _ c.requires.0 c.requires.1 (search rules)) c.list_refusal.ensures

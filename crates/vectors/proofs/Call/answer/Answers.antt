-- `vectors::Call::answer` meets its contract: by the call. Assumes nothing.
use borrow.Author.Rules.{rules}
use Rattle.questions.proofs.AnswerLaws.{permit_asked, deny_asked, obligation_asked}
use Rattle.vectors.specs.Replies.{reply_to}
use Rattle.vectors.proofs.Replying.{written_reply, told_reply}
use Rattle.vectors.proofs.Call.answer.Goals as goal

pub returns-in-Evaluate : goal.returns-in-Evaluate
unfolding reply_to
returns-in-Evaluate c = rw c.in-Evaluate.is (written_reply c.evaluate.ensures c.replied.ensures.0 c.replied.ensures.1)

pub returns-in-PartialEvaluate : goal.returns-in-PartialEvaluate
unfolding reply_to
returns-in-PartialEvaluate c = rw c.in-PartialEvaluate.is (written_reply c.partial_evaluate.ensures c.replied-in-PartialEvaluate.ensures.0 c.replied-in-PartialEvaluate.ensures.1)

pub returns-in-NarrowResidual : goal.returns-in-NarrowResidual
unfolding reply_to
returns-in-NarrowResidual c = rw c.in-NarrowResidual.is (written_reply c.narrow_residual.ensures c.replied-in-NarrowResidual.ensures.0 c.replied-in-NarrowResidual.ensures.1)

pub returns-in-CompleteResidual : goal.returns-in-CompleteResidual
unfolding reply_to
returns-in-CompleteResidual c = rw c.in-CompleteResidual.is (written_reply c.complete_residual.ensures c.replied-in-CompleteResidual.ensures.0 c.replied-in-CompleteResidual.ensures.1)

pub returns-in-RequiredFacts : goal.returns-in-RequiredFacts
unfolding reply_to
returns-in-RequiredFacts c = rw c.in-RequiredFacts.is c.sheet_facts.ensures

pub returns-in-RequiredResidualFacts : goal.returns-in-RequiredResidualFacts
unfolding reply_to
returns-in-RequiredResidualFacts c = rw c.in-RequiredResidualFacts.is c.record_facts.ensures

pub returns-in-IsPermitConstant : goal.returns-in-IsPermitConstant
unfolding reply_to
returns-in-IsPermitConstant c =
    rw c.in-IsPermitConstant.is
    (told_reply c.is_permit_constant.result c.map.result (permit_asked c.args.words.now c.is_permit_constant.ensures) c.map.ensures.cases (λ x y p. search rules) c.replied-in-IsPermitConstant.ensures.0 c.replied-in-IsPermitConstant.ensures.1)

pub returns-in-IsDenyConstant : goal.returns-in-IsDenyConstant
unfolding reply_to
returns-in-IsDenyConstant c =
    rw c.in-IsDenyConstant.is
    (told_reply c.is_deny_constant.result c.map-in-IsDenyConstant.result (deny_asked c.args.words.now c.is_deny_constant.ensures) c.map-in-IsDenyConstant.ensures.cases (λ x y p. search rules) c.replied-in-IsDenyConstant.ensures.0 c.replied-in-IsDenyConstant.ensures.1)

pub returns-in-CarriesObligation : goal.returns-in-CarriesObligation
unfolding reply_to
returns-in-CarriesObligation c =
    rw c.in-CarriesObligation.is
    (told_reply c.carries_obligation.result c.map-in-CarriesObligation.result (obligation_asked c.args.words.now c.carries_obligation.ensures) c.map-in-CarriesObligation.ensures.cases (λ x y p. search rules) c.replied-in-CarriesObligation.ensures.0 c.replied-in-CarriesObligation.ensures.1)

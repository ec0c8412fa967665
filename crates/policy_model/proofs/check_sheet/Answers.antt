-- `policy_model::check_sheet` meets its contract: the length, the tree, and nothing after it. Assumes nothing.
use mathlib.Core.Path.{refl, ◌∙◌}
use Rattle.policy_model.specs.Answers.{at_end}
use Rattle.policy_model.proofs.Checking.{sheet_passed_on}
use Rattle.policy_model.proofs.Whole.{sheet_accepted, sheet_refused}
use Rattle.policy_model.proofs.check_sheet.Goals as goal

pub returns-in_err-next : goal.returns-in_err-next
unfolding at_end
returns-in_err-next c =
    sheet_passed_on _ _ c.from_residual.ensures.1
    ∙ sheet_refused _ c.args.words.now _ _ c.if-words-eq0.false c.if-words-gt-SHEET_WORDS.false c.in_err-next.ensures refl

pub returns-in_err-to_the_end : goal.returns-in_err-to_the_end
returns-in_err-to_the_end c =
    sheet_passed_on _ _ c.from_residual-in_err-to_the_end.ensures.1
    ∙ sheet_refused _ c.args.words.now _ _ c.if-words-eq0.false c.if-words-gt-SHEET_WORDS.false c.in_ok-next.ensures c.in_err-to_the_end.ensures

pub returns : goal.returns
returns c =
    sheet_accepted _ c.args.words.now _ _ c.if-words-eq0.false c.if-words-gt-SHEET_WORDS.false c.in_ok-next.ensures c.in_ok-to_the_end.ensures

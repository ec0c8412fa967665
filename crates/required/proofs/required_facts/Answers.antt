-- `required::required_facts` meets its contract: by the check of the sheet. Assumes nothing.
use mathlib.Core.Path.{refl, subst}
use Rattle.model.specs.Outcome.{product_sets}
use Rattle.model.specs.Reading.{levels}
use Rattle.model.specs.Products.{read_sheet, policy_at}
use Rattle.laws.proofs.NumberLaws.{sheet_numbered}
use Rattle.policy_model.proofs.Checking.{passed_on}
use Rattle.required.specs.Answers.{FactsOf}
use Rattle.required.proofs.Nodes.{facts_over}
use Rattle.required.proofs.Sheets.{accepted, refused}
use Rattle.required.proofs.required_facts.Goals as goal

pub returns-in_err-check_sheet : goal.returns-in_err-check_sheet
returns-in_err-check_sheet c =
    let sheet = c.args.sheet.now in
    refused _ (read_sheet sheet) _ _ _ (passed_on _ _ c.from_residual.ensures.1) (sheet_numbered product_sets.value sheet) c.in_err-check_sheet.ensures c.no_facts.ensures

pub returns : goal.returns
returns c =
    let sheet = c.args.sheet.now in
    let facts = subst (λ before. FactsOf (policy_at sheet 0 levels) before c.facts_at.new.set c.facts_at.result) c.no_facts.ensures c.facts_at.ensures in
    accepted sheet _ _ _ c.in_ok-check_sheet.ensures (facts_over (policy_at sheet 0 levels) _ _ _ _ refl facts)

-- `required::required_residual_facts` meets its contract: by the check of the record. Assumes nothing.
use mathlib.Core.Path.{refl, subst}
use Rattle.model.specs.Outcome.{product_sets}
use Rattle.model.specs.Reading.{levels, record_length}
use Rattle.model.specs.Products.{read_lead, read_record, policy_at}
use Rattle.laws.proofs.NumberLaws.{record_numbered}
use Rattle.policy_model.proofs.Checking.{passed_on}
use Rattle.required.specs.Answers.{FactsOf}
use Rattle.required.proofs.Nodes.{facts_over}
use Rattle.required.proofs.Records.{record_tree, pending_record, resolved_record, refused_record}
use Rattle.required.proofs.required_residual_facts.Goals as goal

pub returns-in_err-head : goal.returns-in_err-head
returns-in_err-head c =
    let words = c.args.words.now in
    refused_record _ (read_record words) _ _ _ (passed_on _ _ c.from_residual.ensures.1) (record_numbered product_sets.value words) c.in_err-head.ensures c.no_facts.ensures

pub returns-in-Resolved : goal.returns-in-Resolved
returns-in-Resolved c =
    let words = c.args.words.now in
    let lead = rw c.in-Resolved.is at c.in_ok-head.ensures in
    resolved_record _ _ _ _ (record_length words) (read_lead words) lead c.no_facts.ensures

pub returns-in-Pending : goal.returns-in-Pending
returns-in-Pending c =
    let words = c.args.words.now in
    let at = c.in_ok-head.head.tree in
    let lead = rw c.in-Pending.is at c.in_ok-head.ensures in
    let facts = subst (λ before. FactsOf (policy_at words at levels) before c.facts_at.new.set c.facts_at.result) c.no_facts.ensures c.facts_at.ensures in
    pending_record _ _ _ _ words (record_length words) (read_lead words) _ (record_tree words) lead (facts_over (policy_at words at levels) _ _ _ _ refl facts)

-- `calls::complete_residual_by` meets its contract. Assumes nothing.
use native.Mathlib.Omega.{arith}
use mathlib.Core.Path.{refl, ap}
use mathlib.Core.Bool.{false}
use Rattle.model.specs.Products.{completed_from}
use Rattle.completion.specs.Answers.{completed_after}
use Rattle.calls.proofs.Records.{record_few, record_number, record_refused, record_copied, record_made}
use Rattle.model.specs.Facts.{table_of, known_facts}
use Rattle.outcome.specs.Carried.{carried}
use Rattle.policy_model.specs.Answers.{kind_by}
use Rattle.calls.proofs.Judging.{passed_on}
use Rattle.calls.proofs.complete_residual_by.Goals as goal

pub returns-in_err-head : goal.returns-in_err-head
returns-in_err-head c =
    let args = c.args in
    let g = carried args.outcomes in
    passed_on _ _ c.from_residual.ensures.1 (record_refused g known_facts args.number args.words.now args.facts.now (completed_from g (table_of args.facts.now)) (λ l. false) args.out.now _ (c.in_err-head.ensures _ c.most-most.ensures.counts))

pub invariant_of-evaluation : goal.invariant_of-evaluation
invariant_of-evaluation c =
    let args = c.args in
    let g = carried args.outcomes in
    record { bounded = record_few g known_facts args.number args.words.now args.facts.now (omega arith) _ (c.in_ok-head.ensures _ c.most-most.ensures.counts) }

pub under_number-requires : goal.under_number-requires
under_number-requires c =
    let args = c.args in
    let g = carried args.outcomes in
    record_number g known_facts args.number args.words.now args.facts.now (omega arith) _ (c.in_ok-head.ensures _ c.most-most.ensures.counts)

pub returns-in-Resolved : goal.returns-in-Resolved
returns-in-Resolved c =
    let args = c.args in
    let g = carried args.outcomes in
    record_copied g known_facts args.number args.words.now args.facts.now (completed_from g (table_of args.facts.now)) (λ l. false) args.out.now (λ d l. refl) (omega arith) _ _ _ (ap kind_by c.in-Resolved.is) (c.in_ok-head.ensures _ c.most-most.ensures.counts) (λ x vs q k. refl) c.copy_record.ensures

pub returns-in-Pending : goal.returns-in-Pending
returns-in-Pending c =
    let args = c.args in
    let g = carried args.outcomes in
    record_made g known_facts args.number args.words.now args.facts.now (completed_from g (table_of args.facts.now)) (λ l. false) args.out.now (completed_after g (table_of args.facts.now)) (λ t l. refl) (omega arith) _ _ _ (ap kind_by c.in-Pending.is) (c.in_ok-head.ensures _ c.most-most.ensures.counts) (λ x vs q k. refl) c.complete-completed.ensures c.under_number.ensures

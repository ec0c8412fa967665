-- `calls::narrow_residual_by` meets its contract. Assumes nothing.
use native.Mathlib.Omega.{arith}
use mathlib.Core.Path.{refl, sym, ap, ◌∙◌}
use Rattle.model.specs.Consulted.{any_contradicted}
use Rattle.model.specs.Products.{narrowed_from}
use Rattle.partial_policy.specs.Reducing.{order_of}
use Rattle.partial.specs.Answers.{reduced_after}
use Rattle.calls.proofs.Records.{record_few, record_number, record_refused, entries_found, record_contradicted, record_copied, record_made}
use Rattle.model.specs.Facts.{table_of, partial_facts}
use Rattle.outcome.specs.Carried.{carried}
use Rattle.policy_model.specs.Answers.{kind_by}
use Rattle.calls.proofs.Judging.{passed_on}
use Rattle.calls.proofs.narrow_residual_by.Goals as goal

pub returns-in_err-head : goal.returns-in_err-head
returns-in_err-head c =
    let args = c.args in
    let g = carried args.outcomes in
    passed_on _ _ c.from_residual.ensures.1 (record_refused g partial_facts args.number args.words.now args.facts.now (narrowed_from g (order_of args.order) (table_of args.facts.now)) (any_contradicted (table_of args.facts.now)) args.out.now _ (c.in_err-head.ensures _ c.most-most.ensures.counts))

pub returns-then-contradicted : goal.returns-then-contradicted
returns-then-contradicted c =
    let args = c.args in
    let g = carried args.outcomes in
    record_contradicted g partial_facts args.number args.words.now args.facts.now (narrowed_from g (order_of args.order) (table_of args.facts.now)) (any_contradicted (table_of args.facts.now)) args.out.now (omega arith) _ _ _ (c.in_ok-head.ensures _ c.most-most.ensures.counts)
    (λ x vs q k. sym c.if-contradicted.true ∙ entries_found g partial_facts args.number args.words.now args.facts.now c.contradicted.ensures x vs q k)

pub invariant_of-evaluation : goal.invariant_of-evaluation
invariant_of-evaluation c =
    let args = c.args in
    let g = carried args.outcomes in
    record { bounded = record_few g partial_facts args.number args.words.now args.facts.now (omega arith) _ (c.in_ok-head.ensures _ c.most-most.ensures.counts) }

pub under_number-requires : goal.under_number-requires
under_number-requires c =
    let args = c.args in
    let g = carried args.outcomes in
    record_number g partial_facts args.number args.words.now args.facts.now (omega arith) _ (c.in_ok-head.ensures _ c.most-most.ensures.counts)

pub returns-in-Resolved : goal.returns-in-Resolved
returns-in-Resolved c =
    let args = c.args in
    let g = carried args.outcomes in
    record_copied g partial_facts args.number args.words.now args.facts.now (narrowed_from g (order_of args.order) (table_of args.facts.now)) (any_contradicted (table_of args.facts.now)) args.out.now (λ d l. refl) (omega arith) _ _ _ (ap kind_by c.in-Resolved.is) (c.in_ok-head.ensures _ c.most-most.ensures.counts) (λ x vs q k. sym c.if-contradicted.false ∙ entries_found g partial_facts args.number args.words.now args.facts.now c.contradicted.ensures x vs q k) c.copy_record.ensures

pub returns-in-Pending : goal.returns-in-Pending
returns-in-Pending c =
    let args = c.args in
    let g = carried args.outcomes in
    record_made g partial_facts args.number args.words.now args.facts.now (narrowed_from g (order_of args.order) (table_of args.facts.now)) (any_contradicted (table_of args.facts.now)) args.out.now (reduced_after g (order_of args.order) (table_of args.facts.now)) (λ t l. refl) (omega arith) _ _ _ (ap kind_by c.in-Pending.is) (c.in_ok-head.ensures _ c.most-most.ensures.counts) (λ x vs q k. sym c.if-contradicted.false ∙ entries_found g partial_facts args.number args.words.now args.facts.now c.contradicted.ensures x vs q k) c.reduce-narrowed.ensures c.under_number.ensures

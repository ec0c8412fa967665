-- `calls::partial_evaluate_by_levels` meets its contract, by whether the table is accepted. Assumes nothing.
use lib.ListN.{length}
use Rattle.model.specs.Calls as model
use Rattle.outcome.specs.Carried.{table}
use Rattle.partial_policy.specs.Reducing.{order_of}
use Rattle.calls.proofs.Judging.{passed_on}
use Rattle.calls.proofs.Levels.{with_table, table_refused}
use Rattle.calls.proofs.partial_evaluate_by_levels.Goals as goal

pub returns-in_err-table : goal.returns-in_err-table
returns-in_err-table c =
    let args = c.args in
    passed_on _ _ c.from_residual.ensures.1 (table_refused (λ L. model.partial_evaluate L (order_of args.order) args.number args.sheet.now args.facts.now (length args.out.now)) (table args.levels args.outcomes.now) c.in_err-table.ensures)

pub returns : goal.returns
returns c =
    let args = c.args in
    with_table (λ L. model.partial_evaluate L (order_of args.order) args.number args.sheet.now args.facts.now (length args.out.now)) (table args.levels args.outcomes.now) c.in_ok-table.ensures c.partial_evaluate_by.ensures

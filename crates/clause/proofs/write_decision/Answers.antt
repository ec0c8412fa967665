-- `clause::write_decision` meets its contract: the node of a permit or of a deny, with its clause. Assumes nothing.
use Rattle.clause.proofs.Writing.{permit_written, deny_written}
use Rattle.clause.proofs.write_decision.Goals as goal

pub returns-then-decision : goal.returns-then-decision
returns-then-decision c =
    let written = c.write_permit_with_trace.ensures in
    permit_written _ _ _ _ _ c.clause_at-clause.ensures _ _ _ c.if-decision.true written.0 written.1

pub returns-else-decision : goal.returns-else-decision
returns-else-decision c =
    let written = c.write_deny_with_trace.ensures in
    deny_written _ _ _ _ _ c.clause_at-clause.ensures _ _ _ c.if-decision.false written.0 written.1

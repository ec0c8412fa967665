-- `clause::clause_at` meets its contract: each node by its head. Assumes nothing.
use mathlib.Core.Path.{sym, ◌∙◌}
use Rattle.clause.proofs.Nodes.{clause_grant, clause_permit, clause_deny, clause_other}
use Rattle.clause.proofs.clause_at.Goals as goal

pub returns-in-Grant : goal.returns-in-Grant
returns-in-Grant c =
    clause_grant _ _ _ _ c.in-Some.ensures _ _ _ _ (sym c.in-Grant.is ∙ c.policy_head.ensures) c.word_at-marks.ensures c.clause_of-in-Grant.ensures

pub returns-in-PermitWithTrace : goal.returns-in-PermitWithTrace
returns-in-PermitWithTrace c =
    clause_permit _ _ _ _ c.in-Some.ensures _ _ _ (sym c.in-PermitWithTrace.is ∙ c.policy_head.ensures) c.word_at-marks.ensures c.clause_of-in-PermitWithTrace.ensures

pub returns-in-DenyWithTrace : goal.returns-in-DenyWithTrace
returns-in-DenyWithTrace c =
    clause_deny _ _ _ _ c.in-Some.ensures _ _ _ (sym c.in-DenyWithTrace.is ∙ c.policy_head.ensures) c.word_at-marks.ensures c.clause_of-in-DenyWithTrace.ensures

pub returns-in_default-policy_head : goal.returns-in_default-policy_head
returns-in_default-policy_head c =
    let default = c.in_default-policy_head in
    clause_other _ _ _ _ c.in-Some.ensures _ c.policy_head.ensures (record { no_grant = default.not-Grant; no_permit = default.not-PermitWithTrace; no_deny = default.not-DenyWithTrace })
    c.clause_of-in_default-policy_head.ensures

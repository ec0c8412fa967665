-- `visits::visits` meets its contract: the count of the policy at 0. Assumes nothing.
use mathlib.Core.Path.{refl}
use Rattle.model.specs.Facts.{table_of}
use Rattle.visits.proofs.Policies.{sheet_within, sheet_over}
use Rattle.visits.proofs.visits.Goals as goal

pub returns-in_err-visit_policy : goal.returns-in_err-visit_policy
returns-in_err-visit_policy c =
    let a = c.args in
    sheet_over (table_of a.facts.now) a.sheet.now a.allowance _ (rw c.in_err-visit_policy.was at c.visit_policy.ensures) c.from_residual.ensures

pub returns : goal.returns
returns c =
    let a = c.args in
    sheet_within (table_of a.facts.now) a.sheet.now a.allowance _ _ (rw c.in_ok-visit_policy.was at c.visit_policy.ensures) refl

-- `policy_model::check_grant` meets its contract: word after word. Assumes nothing.
use mathlib.Core.Path.{◌∙◌}
use native.Mathlib.Omega.{arith}
use Rattle.policy_model.proofs.Checking.{passed_on}
use Rattle.policy_model.proofs.Nodes.{marked, unmarked, grant_short, grant_marks, grant_refused, grant_goes_on}
use Rattle.policy_model.proofs.check_grant.Goals as goal

pub returns-in_err-list : goal.returns-in_err-list
returns-in_err-list c =
    let s = c.args in
    λ shape outcome.
    passed_on _ _ c.from_residual.ensures.1
    ∙ unmarked _ _ _ _ (grant_short s.words.now s.at s.depth s.obligations shape outcome)
    (λ lt e. grant_marks s.words.now s.at s.depth s.obligations shape outcome lt c.type_inv.words e) c.in_err-list.ensures

pub check_obligations-requires : goal.check_obligations-requires
check_obligations-requires c = let m = marked _ _ _ c.in_ok-list.ensures in rw m.2 (omega (arith, m.0))

pub returns-in_err-next : goal.returns-in_err-next
returns-in_err-next c =
    let s = c.args in
    let m = marked _ _ _ c.in_ok-list.ensures in
    λ shape outcome.
    passed_on _ _ c.from_residual-in_err-next.ensures.1
    ∙ grant_refused s.words.now s.at s.depth s.obligations shape outcome m.0 c.type_inv.words _ m.1 (rw m.2 at c.in_err-next.ensures.is)

pub returns : goal.returns
returns c =
    let s = c.args in
    let m = marked _ _ _ c.in_ok-list.ensures in
    λ shape outcome.
    grant_goes_on s.words.now s.at s.depth s.obligations shape outcome m.0 c.type_inv.words _ _ m.1 (rw m.2 at c.in_ok-next.ensures.is)
    c.check_condition.ensures

-- `policy_model::check_deny_with_trace` meets its contract: word after word. Assumes nothing.
use mathlib.Core.Path.{◌∙◌, ap}
use Rattle.std.specs.Prelude.{Err}
use Rattle.policy_model.proofs.Checking.{passed_on}
use Rattle.policy_model.proofs.Nodes.{marked, unmarked, deny_short, deny_marks, deny_short_third, deny_count, deny_facts}
use Rattle.policy_model.proofs.check_deny_with_trace.Goals as goal

pub returns-in_err-third : goal.returns-in_err-third
returns-in_err-third c =
    let s = c.args in
    λ shape denied.
    passed_on _ _ c.from_residual.ensures.1
    ∙ unmarked _ _ _ _ (deny_short s.words.now s.at shape denied) (λ lt e. deny_marks s.words.now s.at shape denied lt c.type_inv.words e) c.in_err-third.ensures

pub returns-in_err-facts : goal.returns-in_err-facts
returns-in_err-facts c =
    let s = c.args in
    let m = marked _ _ _ c.in_ok-third.ensures in
    let short = c.in_err-facts.ensures in
    λ shape denied.
    passed_on _ _ c.from_residual-in_err-facts.ensures.1
    ∙ ap Err short.1
    ∙ deny_short_third s.words.now s.at shape denied m.0 c.type_inv.words m.1 (rw m.2 at short.0)

pub returns-then-facts-ge-COUNTS : goal.returns-then-facts-ge-COUNTS
returns-then-facts-ge-COUNTS c =
    let s = c.args in
    let m = marked _ _ _ c.in_ok-third.ensures in
    let w = rw m.2 at c.in_ok-facts.ensures in
    λ shape denied.
    deny_count s.words.now s.at shape denied m.0 c.type_inv.words m.1 w.0 (rw w.1 at c.if-facts-ge-COUNTS.true)

pub returns : goal.returns
returns c =
    let s = c.args in
    let m = marked _ _ _ c.in_ok-third.ensures in
    let w = rw m.2 at c.in_ok-facts.ensures in
    λ shape denied.
    deny_facts s.words.now s.at shape denied m.0 c.type_inv.words _ m.1 w.0 (rw w.1 at c.if-facts-ge-COUNTS.false)
    (rw m.2 at (rw w.1 at c.check_facts.ensures))

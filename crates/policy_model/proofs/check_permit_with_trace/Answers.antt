-- `policy_model::check_permit_with_trace` meets its contract: word after word. Assumes nothing.
use Rattle.std.specs.Prelude.{Err}
use mathlib.Core.Path.{◌≡◌, sym, ◌∙◌, ap}
use Prim.Native.Nat.{◌+◌}
use native.Mathlib.Omega.{arith}
use Rattle.policy_model.proofs.Checking.{passed_on}
use Rattle.policy_model.proofs.Nodes.{permit_short, permit_mark, permit_count, permit_refused, permit_goes_on}
use Rattle.policy_model.proofs.check_permit_with_trace.Goals as goal
use Rattle.policy_model.proofs.check_permit_with_trace.Goals.{then-not-mark_fits-via-then-not-mark_fits, then-not-mark_fits-via-else-not-mark_fits+then-facts-ge-COUNTS}

pub returns-in_err-second : goal.returns-in_err-second
returns-in_err-second c =
    let s = c.args in
    let short = c.in_err-second.ensures in
    λ outcome. passed_on _ _ c.from_residual.ensures.1 ∙ ap Err short.1 ∙ permit_short s.words.now s.at s.obligations outcome short.0

pub returns-then-not-mark_fits : goal.returns-then-not-mark_fits
returns-then-not-mark_fits c =
    let s = c.args in
    let w = c.in_ok-second.ensures in
    let fits = rw w.1 at c.mark_fits.ensures in
    λ outcome.
    elim c.then-not-mark_fits.branch [
      | then-not-mark_fits-via-then-not-mark_fits v ↦ permit_mark s.words.now s.at s.obligations outcome w.0 c.type_inv.words (sym fits ∙ v.if-not-mark_fits.true)
      | then-not-mark_fits-via-else-not-mark_fits+then-facts-ge-COUNTS v ↦
          permit_count s.words.now s.at s.obligations outcome w.0 c.type_inv.words (sym fits ∙ v.if-not-mark_fits.false) (rw w.1 at v.if-facts-ge-COUNTS.true)
    ]

pub returns-in_err-next : goal.returns-in_err-next
returns-in_err-next c =
    let s = c.args in
    let w = c.in_ok-second.ensures in
    let fits = rw w.1 at c.mark_fits.ensures in
    let list : s.at + 2 ≡ s.at + 1 + 1 = omega arith in
    λ outcome.
    passed_on _ _ c.from_residual-in_err-next.ensures.1
    ∙ permit_refused s.words.now s.at s.obligations outcome w.0 c.type_inv.words _ (sym fits ∙ c.if-not-mark_fits.false) (rw w.1 at c.if-facts-ge-COUNTS.false)
    (rw list at c.in_err-next.ensures.is)

pub returns : goal.returns
returns c =
    let s = c.args in
    let w = c.in_ok-second.ensures in
    let fits = rw w.1 at c.mark_fits.ensures in
    let list : s.at + 2 ≡ s.at + 1 + 1 = omega arith in
    λ outcome.
    permit_goes_on s.words.now s.at s.obligations outcome w.0 c.type_inv.words _ _ (sym fits ∙ c.if-not-mark_fits.false) (rw w.1 at c.if-facts-ge-COUNTS.false)
    (rw list at c.in_ok-next.ensures.is) (rw w.1 at c.check_facts.ensures)

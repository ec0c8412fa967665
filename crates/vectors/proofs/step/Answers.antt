-- `vectors::step` meets its contract. Assumes nothing.
use mathlib.Core.Path.{sym, ◌∙◌}
use Rattle.vectors.proofs.Tallying.{step_other, step_same}
use Rattle.vectors.proofs.step.Goals as goal

pub returns-then-number_in-number : goal.returns-then-number_in-number
returns-then-number_in-number c = step_other c.args.call c.args.case.now c.args.place c.args.tally (λ e. c.if-number_in-number.true (c.number_in.ensures.0 ∙ e ∙ sym c.number.ensures))

pub returns : goal.returns
returns c =
    let args = c.args in
    c.noted.ensures ∙ step_same args.call args.case.now args.place args.tally _ (sym c.number_in.ensures.0 ∙ c.if-number_in-number.false ∙ c.number.ensures) c.agrees.ensures

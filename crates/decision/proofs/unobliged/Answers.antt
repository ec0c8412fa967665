-- `decision::unobliged` meets its contract. Assumes nothing.
use mathlib.Core.Path.{sym, ◌∙◌}
use borrow.Author.Tests.{eqb-true}
use Rattle.decision.proofs.Buffers.{unobliged_past, unobliged_there}
use Rattle.decision.proofs.unobliged.Goals as goal

pub returns-in_default : goal.returns-in_default
returns-in_default c e = unobliged_past _ _ c.if-decision-ne0.false c.in_default.ensures

pub returns : goal.returns
returns c e =
    unobliged_there _ _ _ c.if-decision-ne0.false c.in-Some.ensures (sym c.obligations_of.ensures ∙ eqb-true _ _ e)

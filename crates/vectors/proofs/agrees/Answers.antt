-- `vectors::agrees` meets its contract: number and value, then the output. Assumes nothing.
use mathlib.Core.Path.{sym, ◌∙◌}
use native.Mathlib.Omega.{arith}
use Rattle.vectors.proofs.Agreeing.{agrees_long, agrees_fits, answers_yes, answers_no}
use Rattle.vectors.proofs.Same.{same_by_words}
use Rattle.vectors.proofs.agrees.Goals as goal

pub returns-then-room-number_in : goal.returns-then-room-number_in
returns-then-room-number_in c = agrees_long c.args.call c.args.case.now (omega arith)

pub returns-then-returned : goal.returns-then-returned
returns-then-returned c =
    agrees_fits c.args.call c.args.case.now _ (omega arith)
    (c.eq.ensures ∙ same_by_words _ _ ∙ answers_yes c.args.call c.args.case.now _ _ _ c.run-given.ensures (sym c.returned.ensures ∙ c.if-returned.true))

pub returns-else-returned : goal.returns-else-returned
returns-else-returned c =
    agrees_fits c.args.call c.args.case.now _ (omega arith)
    (c.if-returned.false ∙ answers_no c.args.call c.args.case.now _ _ _ c.run-given.ensures (sym c.returned.ensures ∙ c.if-returned.false))

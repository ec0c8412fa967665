-- `residual::lay_gathered` meets its contract: by whether the decision's facts can be counted and whether there is room. Assumes nothing.
use mathlib.Core.Path.{sym, ◌∙◌}
use native.Mathlib.Omega.{arith}
use Rattle.clause.proofs.AnswerLaws.{held_taken, named_taken}
use Rattle.residual.proofs.Laying.{node_long, node_no_room, node_written}
use Rattle.residual.proofs.lay_gathered.Goals as goal

pub returns-then-not-countable : goal.returns-then-not-countable
returns-then-not-countable c =
    node_long (omega arith) c.obligations-held.ensures c.clause_facts-count.ensures _ (sym c.countable.ensures ∙ c.if-not-countable.true)

pub returns-then-out-size : goal.returns-then-out-size
returns-then-out-size c =
    node_no_room (omega arith) c.obligations-held.ensures c.clause_facts-count.ensures (sym c.countable.ensures ∙ c.if-not-countable.false) _ c.decision_words-size.ensures _ c.if-out-size.true

pub write_decision-requires : goal.write_decision-requires
write_decision-requires c =
    rw (held_taken c.obligations-held.ensures (omega arith), named_taken c.clause_facts-count.ensures)
    (sym c.countable.ensures ∙ c.if-not-countable.false, omega (arith, c.decision_words-size.ensures, c.if-out-size.false))

pub returns : goal.returns
returns c =
    node_written (omega arith) c.obligations-held.ensures c.clause_facts-count.ensures (sym c.countable.ensures ∙ c.if-not-countable.false)
    _ (rw (held_taken c.obligations-held.ensures (omega arith), named_taken c.clause_facts-count.ensures) at c.write_decision.ensures.number) _ _ c.write_decision.ensures

-- `answer::put_record` meets its contract. Assumes nothing.
use mathlib.Core.Path.{sym, ◌∙◌}
use native.Mathlib.Omega.{arith}
use Rattle.answer.proofs.Putting.{put_no_room, put_written}
use Rattle.answer.proofs.put_record.Goals as goal

pub returns-then-out-entry_words : goal.returns-then-out-entry_words
returns-then-out-entry_words c =
    put_no_room c.obligations-obligation_count.ensures (omega arith) c.clause_facts-count.ensures _ c.decision_words-size.ensures (omega (arith, c.if-out-entry_words.true, c.entry_words.ensures))

pub returns : goal.returns
returns c =
    put_written c.obligations-obligation_count.ensures (omega arith) c.clause_facts-count.ensures _ c.decision_words-size.ensures (sym c.countable.ensures ∙ c.if-not-countable.false) (omega (arith, c.requires)) (omega (arith, c.if-out-entry_words.false, c.entry_words.ensures))
    c.write_front-behind.ensures.1 c.write_decision-rest.ensures

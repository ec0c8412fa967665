-- `completion::load_consulted` meets its contract. The loop's invariant: the first i entries are listed. Assumes nothing.
use mathlib.Core.Path.{refl}
use Rattle.completion.proofs.Loading.{load_more, load_all, load_cut}
use Rattle.completion.proofs.load_consulted.Goals as goal

pub returns-then-words-i : goal.returns-then-words-i
returns-then-words-i c = load_cut _ _ _ _ _ c.loop-i-test.true c.if-words-i.true

pub loop-i-preserved : goal.loop-i-preserved
loop-i-preserved c =
    load_more _ _ _ _ _ _ _ _ _ c.loop-i-test.true c.loop-i.invariant c.unpack_entry-field.ensures refl c.entry_presence.ensures.seen c.consult.ensures

pub returns : goal.returns
returns c = load_all _ _ _ _ _ c.loop-i-test.false c.loop-i.invariant

-- `decision::with_bits` meets its contract: one more in each turn. Assumes nothing.
use lib.ListN.{take}
use Rattle.decision.specs.Answers.{Masked}
use Rattle.decision.proofs.with_bits.Given as goal

abbrev pub invariant-loop-obligation : goal.invariant-loop-obligation
invariant-loop-obligation l = Masked l.mask (take l.obligation-index l.numbers) l.all

-- `decision::Union::append_all` meets its contract: one more in each turn. Assumes nothing.
use lib.ListN.{take}
use Rattle.decision.specs.Uniting.{Grown}
use Rattle.decision.proofs.Union.append_all.Given as goal

abbrev pub invariant-loop-obligation : goal.invariant-loop-obligation
invariant-loop-obligation l = Grown (take l.obligation-index l.numbers) l.initial.buf l.buf l.initial.self l.self

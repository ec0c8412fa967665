-- `decision::Union::append_all` meets its contract: one more in each turn. Assumes nothing.
use Rattle.decision.proofs.Unions.{grown_more}
use Rattle.decision.proofs.Union.append_all.Goals as goal

pub loop-obligation-preserved : goal.loop-obligation-preserved
loop-obligation-preserved c = grown_more _ _ _ _ _ _ _ _ c.loop-obligation-test.true c.loop-obligation.invariant c.append.ensures

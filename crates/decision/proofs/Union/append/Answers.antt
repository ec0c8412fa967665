-- `decision::Union::append` meets its contract: the obligation is held, or it is appended. Assumes nothing.
use native.Mathlib.Omega.{arith}
use Rattle.decision.proofs.Unions.{append_held, append_new}
use Rattle.decision.proofs.Union.append.Goals as goal

pub returns-then-self-obligation-eq1 : goal.returns-then-self-obligation-eq1
returns-then-self-obligation-eq1 c = append_held _ _ _ c.if-self-obligation-eq1.true

pub returns-then-self-lt-OBLIGATION_ROOM : goal.returns-then-self-lt-OBLIGATION_ROOM
returns-then-self-lt-OBLIGATION_ROOM c = append_new _ _ _ (omega (arith, c.requires)) c.if-self-obligation-eq1.false _ _ c.with_bit-self.ensures

-- `partial_list::with_first_deny` meets its contract. Assumes nothing.
use mathlib.Core.Path.{refl}
use Rattle.partial_list.proofs.Ending.{end_permits, end_denies}
use Rattle.partial_list.proofs.with_first_deny.Goals as goal

pub returns-then-decision : goal.returns-then-decision
returns-then-decision c = end_permits c.requires.0 _ _ c.in-Some.is c.if-decision.true

pub returns : goal.returns
returns c = end_denies c.requires.0 _ _ _ _ _ _ c.in-Some.is c.if-decision.false refl c.policy_from_decision-kept.ensures

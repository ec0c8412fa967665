-- `partial_list::end_at_deny` meets its contract: by whether an arm is pending. Assumes nothing.
use mathlib.Core.Path.{refl}
use borrow.Author.Tests.{not-true, not-false}
use Rattle.partial_list.proofs.Holding.{deny_answers, deny_kept}
use Rattle.partial_list.proofs.end_at_deny.Goals as goal

pub returns-then-not-sofar : goal.returns-then-not-sofar
returns-then-not-sofar c = deny_answers _ _ c.requires.2 (not-true _ c.if-not-sofar.true)

pub returns : goal.returns
returns c = deny_kept (not-false _ c.if-not-sofar.false) c.lay_node.ensures refl (c.end_in_order.ensures _ _ _)

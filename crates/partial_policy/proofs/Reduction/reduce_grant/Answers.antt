-- `partial_policy::Reduction::reduce_grant` meets its contract: by whether its words end early, and by what its condition reduces to. Assumes nothing.
use mathlib.Core.Path.{refl}
use Prim.Native.Nat.{◌+◌}
use native.Mathlib.Omega.{arith}
use Rattle.partial_policy.proofs.Nodes.{own_laid, grant_short, grant_pending, grant_decides, grant_by_word}
use borrow.Author.Rules.{rules}
use Rattle.partial_policy.proofs.Reduction.reduce_grant.Goals as goal

pub returns-then-words-at : goal.returns-then-words-at
returns-then-words-at c =
    λ shape n o buf room. rw (c.resolved.ensures, c.denied.ensures)
    (grant_by_word shape n o (grant_short _ _ _ _ shape _ _ _ c.requires.0 c.requires.1 c.before_condition_in-own.ensures _ _ buf room _ (omega arith) c.if-words-at.true))

pub returns-in-Pending : goal.returns-in-Pending
returns-in-Pending c =
    let own = c.before_condition_in-own.result in
    λ shape n o buf room.
    grant_by_word shape n o
    (grant_pending _ _ _ _ shape _ _ _ c.requires.0 c.requires.1 c.before_condition_in-own.ensures _ _ _ _ buf room _ c.reduce_condition-condition.ensures _ _ _ _ c.in-Pending.is (own_laid _ _ c.args.at (c.args.at + own) own (omega arith) (omega arith) c.lay_words.ensures) c.tail_from-from.ensures (search rules) c.plus.ensures refl)

pub returns-in-Known : goal.returns-in-Known
returns-in-Known c =
    λ shape n o buf room. rw (c.resolved-in-Known.ensures, c.granted.ensures, c.outcome_in-outcome.ensures)
    (grant_by_word shape n o (grant_decides _ _ _ _ shape _ _ _ c.requires.0 c.requires.1 c.before_condition_in-own.ensures _ _ _ _ buf room _ c.reduce_condition-condition.ensures _ c.in-Known.is))

-- `policy_model::plain_grant` meets its contract: it takes three words. Assumes nothing.
use mathlib.Core.Path.{sym}
use native.Mathlib.Omega.{arith}
use lib.ListN.{length-drop}
use Rattle.policy_model.specs.PlainLaws.{plain_short}
use Rattle.policy_model.proofs.plain_grant.Goals as goal

pub returns-then-words-at-lt3 : goal.returns-then-words-at-lt3
returns-then-words-at-lt3 c = sym (plain_short _ (omega (arith, length-drop c.args.at c.args.words.now, c.if-words-at-lt3.true)))

-- `policy_model::with_word` meets its contract: the bits that must be 0. Assumes nothing.
use mathlib.Core.Path.{◌∙◌, ap}
use mathlib.Core.Bool.{true, false}
use Rattle.std.specs.Prelude.{Ok}
use borrow.Author.Tests.{eq-eqb, ne_eqb}
use Rattle.policy_model.proofs.Quads.{word_seen}
use Rattle.policy_model.proofs.with_word.Goals as goal

pub returns-then-word-min-eq0 : goal.returns-then-word-min-eq0
returns-then-word-min-eq0 c = ap Ok c.saturating_sub.ensures ∙ word_seen c.args.left c.min.result c.args.word true c.ranges.word.fits c.min.ensures (eq-eqb _ 0 c.if-word-min-eq0.true)

pub returns-else-word-min-eq0 : goal.returns-else-word-min-eq0
returns-else-word-min-eq0 c = word_seen c.args.left c.min.result c.args.word false c.ranges.word.fits c.min.ensures (ne_eqb _ 0 c.if-word-min-eq0.false)

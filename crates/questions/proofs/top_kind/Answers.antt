-- `questions::top_kind` meets its contract: a tree that reads has a first word. Assumes nothing.
use native.Mathlib.Omega.{arith}
use Rattle.questions.proofs.Records.{within, kind_is}
use Rattle.questions.proofs.top_kind.Goals as goal

pub offset_bounds-words-at : goal.offset_bounds-words-at
offset_bounds-words-at c = omega (arith, within c.args.words.now c.args.at c.requires, c.requires.stands.few)

pub bounds-words-at : goal.bounds-words-at
bounds-words-at c = within _ _ c.requires

pub returns : goal.returns
returns c = kind_is _ _ (within _ _ c.requires)

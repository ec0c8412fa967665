-- `questions::is_deny_constant` meets its contract: by the kind of the tree's top node. Assumes nothing.
use mathlib.Core.Path.{◌∙◌, ap}
use Rattle.model.specs.Record.{tree}
use Rattle.model.specs.Required.{asked_of}
use Rattle.model.specs.Products.{read_record}
use Rattle.questions.specs.Answers.{told_of}
use Rattle.questions.proofs.Records.{top_deny}
use Rattle.questions.proofs.is_deny_constant.Goals as goal

pub returns : goal.returns
returns c = c.top_is.ensures ∙ ap (λ ask. told_of (asked_of (read_record c.args.words.now) ask)) (λ i r. top_deny (tree r) i)

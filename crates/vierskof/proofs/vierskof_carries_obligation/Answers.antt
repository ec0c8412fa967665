-- `vierskof::vierskof_carries_obligation` meets its contract: its number is that of the call's answer. Assumes nothing.
use mathlib.Core.Path.{◌∙◌, ap}
use Rattle.questions.proofs.AnswerLaws.{obligation_asked}
use Rattle.vierskof.proofs.Writing.{told_in_one}
use Rattle.vierskof.specs.Answers.{said}
use Rattle.vierskof.proofs.vierskof_carries_obligation.Goals as goal

pub returns : goal.returns
returns c = c.returned.ensures ∙ told_in_one _ ∙ ap said (obligation_asked c.args.residual.now c.carries_obligation.ensures)

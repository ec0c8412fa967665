-- `vierskof::vierskof_is_permit_constant` meets its contract: its number is that of the call's answer. Assumes nothing.
use mathlib.Core.Path.{◌∙◌, ap}
use Rattle.questions.proofs.AnswerLaws.{permit_asked}
use Rattle.vierskof.proofs.Writing.{told_in_one}
use Rattle.vierskof.specs.Answers.{said}
use Rattle.vierskof.proofs.vierskof_is_permit_constant.Goals as goal

pub returns : goal.returns
returns c = c.returned.ensures ∙ told_in_one _ ∙ ap said (permit_asked c.args.residual.now c.is_permit_constant.ensures)

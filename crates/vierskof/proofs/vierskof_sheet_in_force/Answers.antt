-- `vierskof::vierskof_sheet_in_force` meets its contract: its number is that of the call's answer. Assumes nothing.
use mathlib.Core.Path.{◌∙◌, ap}
use Rattle.vierskof.proofs.Writing.{named_in_one}
use Rattle.vierskof.specs.Answers.{named}
use Rattle.vierskof.proofs.vierskof_sheet_in_force.Goals as goal

pub returns : goal.returns
returns c = c.returned.ensures ∙ named_in_one _ ∙ ap named c.sheet_in_force.ensures

-- `vierskof::vierskof_required_residual_facts` meets its contract: its number is that of the call's answer. Assumes nothing.
use Rattle.required.specs.AnswerLaws.{record_counted}
use Rattle.vierskof.proofs.Writing.{counts}
use Rattle.vierskof.proofs.vierskof_required_residual_facts.Goals as goal

pub returns : goal.returns
returns c =
    let facts = record_counted c.args.residual.now c.required_residual_facts.ensures in
    record { answer = counts facts c.returned.ensures; set_is = c.required_residual_facts.ensures.set_is }

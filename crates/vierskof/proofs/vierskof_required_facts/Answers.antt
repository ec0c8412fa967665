-- `vierskof::vierskof_required_facts` meets its contract: its number is that of the call's answer. Assumes nothing.
use Rattle.required.specs.AnswerLaws.{sheet_counted}
use Rattle.vierskof.proofs.Writing.{counts}
use Rattle.vierskof.proofs.vierskof_required_facts.Goals as goal

pub returns : goal.returns
returns c =
    let facts = sheet_counted c.args.sheet.now c.required_facts.ensures in
    record { answer = counts facts c.returned.ensures; set_is = c.required_facts.ensures.set_is }

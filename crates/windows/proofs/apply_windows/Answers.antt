-- `windows::apply_windows` meets its contract. Assumes nothing.
use mathlib.Core.Path.{sym}
use Rattle.calendar.specs.Answers.{date_of}
use Rattle.windows.proofs.Parts.{room_enough}
use Rattle.windows.proofs.apply_windows.Goals as goal

pub returns : goal.returns
returns c =
    let args = c.args in
    room_enough args.list.now (date_of args.reading) (date_of args.today) args.facts.now args.out.now (sym c.in_ok-check.ensures) c.in-Some.ensures.cases.enough c.write.ensures

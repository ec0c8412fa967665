-- `register::in_force` meets its contract. Assumes nothing.
use mathlib.Core.Path.{sym, ap}
use mathlib.Core.Option.{none}
use Rattle.model.specs.Register.{in_force_from}
use Rattle.register.proofs.Entries.{entries_are}
use Rattle.register.proofs.in_force.Goals as goal

pub loop-words-init : goal.loop-words-init
loop-words-init c = ap (in_force_from c.args.group c.args.day none) (sym (entries_are _ _ c.as_chunks.ensures.front))

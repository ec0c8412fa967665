-- `register::in_force` meets its contract. The loop's invariant: the entry in force is the one that the search finds from the best so far in the
-- entries left. Assumes nothing.
use Rattle.std.proofs.Common.{◌≡◌, map, drop}
use Rattle.model.specs.Register.{entries_of, in_force_from, in_force}
use Rattle.register.specs.Answers.{latest_of, entry_in}
use Rattle.register.proofs.in_force.Given as goal

abbrev pub invariant-loop-words : goal.invariant-loop-words
invariant-loop-words l =
    in_force l.group l.day (entries_of l.entries) ≡ in_force_from l.group l.day (latest_of l.best) (map entry_in (drop l.words-index l.words-items))

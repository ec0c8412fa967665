-- `register::repeated` meets its contract. The loop's invariant: an entry is among those from `from` on exactly where it has been met or is among
-- those left. The measure is how many words are left. Assumes nothing.
use mathlib.Core.Path.{◌≡◌}
use mathlib.Core.Bool.{◌||◌}
use Prim.Native.Nat.{◌-◌, ◌≤◌}
use lib.ListN.{length, drop}
use Rattle.model.specs.Register.{entries_of, is_among}
use Rattle.register.specs.Answers.{entry_meant}
use Rattle.register.proofs.repeated.Given as goal

abbrev pub invariant-loop-at : goal.invariant-loop-at
invariant-loop-at l =
    (l.at ≤ length l.entries)
    × (is_among (entry_meant l.entry) (entries_of (drop l.from l.entries)) ≡ (l.met || is_among (entry_meant l.entry) (entries_of (drop l.at l.entries))))

abbrev pub decreases-loop-at : goal.decreases-loop-at
decreases-loop-at l = length l.entries - l.at

-- `register::entries_faultless` meets its contract. The loop's invariant: the entries are faultless exactly where those left are.
-- The measure is how many words are left. Assumes nothing.
use mathlib.Core.Path.{◌≡◌}
use Prim.Native.Nat.{◌-◌, ◌≤◌}
use lib.ListN.{length, drop}
use Rattle.model.specs.Register.{entries_of, faultless}
use Rattle.register.proofs.entries_faultless.Given as goal

abbrev pub invariant-loop-next : goal.invariant-loop-next
invariant-loop-next l = (l.next ≤ length l.entries) × (faultless (entries_of l.entries) ≡ faultless (entries_of (drop l.next l.entries)))

abbrev pub decreases-loop-next : goal.decreases-loop-next
decreases-loop-next l = length l.entries - l.next

-- `policy_model::check_pairs` meets its contract. The loop's invariant: what is asked of the words that are left is what is asked of all, and each word that
-- was passed has two of the count. Assumes nothing.
use mathlib.Core.Path.{◌≡◌}
use Prim.Native.Nat.{◌-◌, ◌*◌}
use lib.ListN.{drop}
use Rattle.policy_model.specs.Lists.{checked_pairs}
use Rattle.policy_model.proofs.check_pairs.Given as goal

abbrev pub invariant-loop-next : goal.invariant-loop-next
invariant-loop-next l =
    (checked_pairs l.presences l.next (drop l.next l.words) l.left ≡ checked_pairs l.presences l.at (drop l.at l.words) l.count) × (l.left ≡ l.count - 2 * (l.next - l.at))

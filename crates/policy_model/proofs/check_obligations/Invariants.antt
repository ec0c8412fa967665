-- `policy_model::check_obligations` meets its contract. The loop's invariant: what is asked of the words that are left is what is asked of all, and each word
-- that was passed has four of the count. Assumes nothing.
use Rattle.std.specs.Prelude.{Ok}
use mathlib.Core.Path.{◌≡◌}
use Prim.Native.Nat.{◌-◌, ◌*◌, ◌≤◌}
use lib.ListN.{length, drop}
use Rattle.policy_model.proofs.Quads.{walk}
use Rattle.policy_model.proofs.check_obligations.Given as goal

abbrev pub invariant-loop-next : goal.invariant-loop-next
invariant-loop-next l =
    (walk l.next (drop l.next l.words) (Ok l.left) ≡ walk l.at (drop l.at l.words) (Ok l.count)) × (l.left ≡ l.count - 4 * (l.next - l.at)) × (l.next ≤ length l.words)

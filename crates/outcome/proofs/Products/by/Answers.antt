-- `outcome::Products::by` meets its contract: without a table, by the operation. Assumes nothing.
use mathlib.Core.Path.{◌≡◌, ◌∙◌, ap}
use Prim.Native.Nat.{ℕ, ◌<◌}
use native.Mathlib.Omega.{arith}
use lib.Bits.{bit_and, bit_or, and_mask, or_zero_r}
use Rattle.model.specs.Levels.{meet_of, join_of}
use Rattle.outcome.proofs.Products.by.Goals as goal

-- All sixteen products are the meet's unit.
unit : (a b : ℕ) → b < 65536 → bit_and a (bit_and b 65535) ≡ bit_and a b
unit a b h = ap (bit_and a) (and_mask b 16 ∙ omega arith)

pub returns-in-Meet : goal.returns-in-Meet
unfolding meet_of
returns-in-Meet c = rw (c.in-None.is, c.in-Meet.is) (c.meet.ensures ∙ unit _ _ (omega arith))

pub returns-in-Join : goal.returns-in-Join
unfolding join_of
returns-in-Join c = rw (c.in-None.is, c.in-Join.is) (c.join.ensures ∙ ap (bit_or c.args.self.bits) (or_zero_r c.args.other.bits))

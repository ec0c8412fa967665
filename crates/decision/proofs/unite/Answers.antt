-- `decision::unite` meets its contract: those of the permit so far are in the mask, and the incoming ones are appended. Assumes nothing.
use native.Mathlib.Omega.{arith}
use Rattle.decision.proofs.Unions.{both_are}
use Rattle.decision.proofs.unite.Goals as goal

pub returns : goal.returns
returns c =
    both_are _ _ _ _ _ _ _ _ _ _ _ _ _ c.split_at_mut-front.ensures.front c.split_at_mut-front.ensures.back (omega (arith, c.split_at_mut-front.ensures.front_len))
    c.node_mask.ensures c.with_bits-mask.ensures c.append_node.ensures.grown c.append_all.ensures

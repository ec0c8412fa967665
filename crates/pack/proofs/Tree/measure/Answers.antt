-- `pack::Tree::measure` meets its contract: a node without lists is told by its first word. Assumes nothing.
use Rattle.std.proofs.Common.{◌≡◌, List, ℕ, ◌+◌, ◌<◌, sym, ◌∙◌, ap, arith, length, drop, get_or, length-append}
use Rattle.policy_model.specs.Span.{own_of}
use Rattle.pack.specs.Flat.{node_run, flat}
use Rattle.pack.specs.FlatLaws.{own_plain, flat_step, flat_end, node_few, node_plain}
use Rattle.pack.proofs.Tree.measure.Goals as goal

-- The bits from a node on are its own and those of the nodes after it.
from_node : (ws : List ℕ) (at end bits : ℕ) → at < length ws → bits ≡ length (node_run ws at) → end ≡ at + 1 + own_of (get_or ws at 0) (drop (at + 1) ws) → length (flat (drop at ws) 0) ≡ bits + length (flat (drop end ws) 0)
from_node ws at end bits h b e =
    ap length (flat_step ws at h)
    ∙ length-append (node_run ws at) (flat (drop (at + 1 + own_of (get_or ws at 0) (drop (at + 1) ws)) ws) 0)
    ∙ (λ i. sym b i + length (flat (drop (sym e i) ws) 0))

pub loop-at-preserved-in-Some : goal.loop-at-preserved-in-Some
loop-at-preserved-in-Some c =
    let ws = c.args.self.now.words.now in
    let at = c.loop-at.at in
    let inv = c.loop-at.invariant in
    let told = c.in-Some.ensures in
    let plain = told.0 in
    let node = from_node ws at (at + 1) _ c.loop-at-test.true (told.1 ∙ sym (ap length (node_plain ws at plain.0 plain.1 plain.2))) (omega (arith, own_plain (get_or ws at 0) (drop (at + 1) ws) plain)) in
    (omega (arith, inv.0, node), omega (arith, inv.1, told.2), omega (arith, c.args.self.now.few))

pub overflow_add-size-in_default : goal.overflow_add-size-in_default
overflow_add-size-in_default c = omega (arith, c.loop-at.invariant.1, c.loop-at.invariant.2, c.bits-size.ensures, node_few c.args.self.now.words.now c.loop-at.at)

pub loop-at-preserved : goal.loop-at-preserved
loop-at-preserved c =
    let ws = c.args.self.now.words.now in
    let at = c.loop-at.at in
    let inv = c.loop-at.invariant in
    let end = c.end-at.ensures in
    let node = from_node ws at _ _ c.loop-at-test.true c.bits-size.ensures end.is in
    (omega (arith, inv.0, node), omega (arith, inv.1, c.bits-size.ensures, node_few ws at, end.is), omega (arith, c.args.self.now.few, end.few))

pub returns-clause-is : goal.returns-clause-is
returns-clause-is c = omega (arith, c.loop-at.invariant.0, ap length (flat_end c.args.self.now.words.now c.loop-at.at (omega (arith, c.loop-at-test.false))))

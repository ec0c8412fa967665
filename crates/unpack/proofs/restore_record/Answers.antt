-- `unpack::restore_record` meets its contract: the lead, the entries, the tree. Assumes nothing.
use Rattle.std.proofs.Common.{List, ◌∷◌, [], ◌++◌, ℕ, ◌+◌, ◌-◌, ◌*◌, ◌≤◌, ap, ap₂, arith, length, take, drop, set, length-set}
use Rattle.model.specs.Bits.{run_of}
use Rattle.packing.specs.Written.{Written}
use Rattle.packing.specs.WrittenLaws.{written_none, written_next, written_lent, written_same, written_long}
use Rattle.unpack.proofs.Records.{tree_words, length_restored, record_parts}
use Rattle.unpack.proofs.restore_record.Goals as goal

-- The lead and the entries, once both are written.
front : (out : List ℕ) (v : ℕ) {words tail : List ℕ} {m : ℕ} → 1 + m ≤ length out → Written words (take (length (set out 0 v) - 1) (drop 1 (set out 0 v))) tail m →
    Written ((v ∷ []) ++ words) out (take 1 (set out 0 v) ++ (tail ++ drop (length (set out 0 v) - 1) (drop 1 (set out 0 v)))) (1 + m)
front out v h t = written_lent (written_next (written_none out) v (omega arith)) t

pub slice_bounds-restore_entries-count : goal.slice_bounds-restore_entries-count
slice_bounds-restore_entries-count c =
    omega (arith, length_restored (run_of c.args.bytes.now) c.args.end, c.requires.3, length-set c.args.out.now 0 (c.bits.result * 65536 + c.bits-2.result))

pub slice_bounds-restore_entries-start : goal.slice_bounds-restore_entries-start
slice_bounds-restore_entries-start c =
    omega (arith, length_restored (run_of c.args.bytes.now) c.args.end, c.requires.3, length-set c.args.out.now 0 (c.bits.result * 65536 + c.bits-2.result))

pub restore_entries-front-requires : goal.restore_entries-front-requires
restore_entries-front-requires c =
    omega (arith, length_restored (run_of c.args.bytes.now) c.args.end, c.bits-count.ensures.is, c.requires.3, length-set c.args.out.now 0 (c.bits.result * 65536 + c.bits-2.result))

pub slice_bounds-restore-count : goal.slice_bounds-restore-count
slice_bounds-restore-count c =
    let long = length_restored (run_of c.args.bytes.now) c.args.end in
    let entries = c.restore_entries-front.ensures in
    let few : 1 + c.restore_entries-front.result ≤ length c.args.out.now = omega (arith, long, entries.0, c.bits-count.ensures.is, c.requires.3) in
    omega (arith, few, written_long (front c.args.out.now _ few entries.1) few)

pub slice_bounds-restore-start : goal.slice_bounds-restore-start
slice_bounds-restore-start c =
    let long = length_restored (run_of c.args.bytes.now) c.args.end in
    let entries = c.restore_entries-front.ensures in
    let few : 1 + c.restore_entries-front.result ≤ length c.args.out.now = omega (arith, long, entries.0, c.bits-count.ensures.is, c.requires.3) in
    omega (arith, few, written_long (front c.args.out.now _ few entries.1) few)

pub restore-requires : goal.restore-requires
restore-requires c =
    let long = length_restored (run_of c.args.bytes.now) c.args.end in
    let entries = c.restore_entries-front.ensures in
    let few : 1 + c.restore_entries-front.result ≤ length c.args.out.now = omega (arith, long, entries.0, c.bits-count.ensures.is, c.requires.3) in
    (c.requires.0, omega (arith, c.bits-count.ensures.is, c.requires.1), c.requires.2, omega (arith, long, entries.0, c.bits-count.ensures.is, ap (λ n. length (tree_words (run_of c.args.bytes.now) c.args.end (32 + 12 * n))) c.bits-count.ensures.is, c.requires.3, written_long (front c.args.out.now _ few entries.1) few))

pub returns : goal.returns
returns c =
    let long = length_restored (run_of c.args.bytes.now) c.args.end in
    let entries = c.restore_entries-front.ensures in
    let few : 1 + c.restore_entries-front.result ≤ length c.args.out.now = omega (arith, long, entries.0, c.bits-count.ensures.is, c.requires.3) in
    written_same (written_lent (front c.args.out.now _ few entries.1) c.restore.ensures) (record_parts (run_of c.args.bytes.now) c.args.end _ _ c.bits-count.ensures.is (ap₂ (λ x y. x * 65536 + y) c.bits.ensures.is c.bits-2.ensures.is))

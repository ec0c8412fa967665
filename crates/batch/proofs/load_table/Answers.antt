-- `batch::load_table` meets its contract. The loop's invariant: the bytes of the words so far stand at the start. Assumes nothing.
use mathlib.Core.Path.{◌≡◌, sym, ◌∙◌, ap, ap₂}
use mathlib.Core.List.{◌++◌}
use Prim.Native.Nat.{◌+◌, ◌-◌, ◌*◌, ◌<◌}
use native.Mathlib.Omega.{arith}
use lib.ListN.{take, drop, get_or, length as list_length, length-take}
use lib.Seq.{get_or-take, drop-drop}
use Rattle.model.specs.Fields.{split}
use Rattle.model.specs.Batch.{table_words}
use Rattle.batch.proofs.Bytes.{put_length, put_next, loaded, word_bytes}
use Rattle.batch.proofs.load_table.Goals as goal

pub loop-i-preserved : goal.loop-i-preserved
loop-i-preserved c =
    let args = c.args in
    let loop = c.loop-i in
    let i = loop.i in
    let at = 4 * i in
    let ws = take table_words args.words.now in
    let w = get_or args.words.now i 0 in
    let few : list_length ws ≡ 64 = simp length-take (omega arith) in
    let below : i < 64 = omega arith in
    let word : w ≡ get_or ws i 0 = sym (get_or-take table_words args.words.now i 0 below) in
    let bytes : c.copy_from_slice.new.self ≡ split 8 4 w = c.copy_from_slice.ensures.after ∙ c.to_be_bytes.ensures ∙ word_bytes w (omega (arith, c.type_inv.words i)) in
    let tail : drop (at + 4 - at) (drop at loop.bytes) ≡ drop (at + 4) loop.bytes = drop-drop (at + 4 - at) at loop.bytes ∙ ap (λ n. drop n loop.bytes) (let e : at + (at + 4 - at) ≡ at + 4 = omega arith in e) in
    let put = ap₂ (λ x y. take at loop.bytes ++ (x ++ y)) bytes tail in
    (put_length loop.bytes _ at w (omega arith) put ∙ loop.invariant.0, put_next loop.bytes _ ws i w (omega arith) (omega arith) word loop.invariant.1 put)

pub returns : goal.returns
returns c =
    let args = c.args in
    let loop = c.loop-i in
    let ws = take table_words args.words.now in
    let few : list_length ws ≡ 64 = simp length-take (omega arith) in
    (loaded loop.bytes ws args.length loop.i (omega arith) (omega arith) loop.invariant.1, loop.invariant.0)

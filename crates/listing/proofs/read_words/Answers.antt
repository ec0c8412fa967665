-- `listing::read_words` meets its contract. The loop's invariant: the words passed stand in the output, before what stood there. Assumes nothing.
use mathlib.Core.Path.{◌≡◌, sym, ap, ap₂, ◌∙◌}
use mathlib.Core.List.{[], ◌++◌}
use Rattle.std.proofs.Common.{append-nil, drop_of_length-le}
use Prim.Native.Nat.{◌+◌, ◌*◌}
use native.Mathlib.Nat.{zero-add}
use native.Mathlib.Omega.{arith}
use lib.ListN.{length, drop, set}
use Rattle.model.specs.Reading.{got}
use Rattle.listing.specs.Inputs.{word_in, words_in}
use Rattle.listing.specs.InputLaws.{words_there}
use Rattle.listing.proofs.Words.{store_next}
use Rattle.listing.proofs.read_words.Goals as goal

pub loop-i-preserved : goal.loop-i-preserved
loop-i-preserved c =
    let at = c.loop-i in
    ap (set at.out at.i) (c.long_at.ensures ∙ ap (word_in c.args.input.now) (sym (zero-add (4 * at.i))))
    ∙ store_next (λ k. word_in c.args.input.now (0 + 4 * k)) at.i at.out c.args.out.now c.loop-i-test.true at.invariant

pub returns : goal.returns
returns c =
    let input = c.args.input.now in
    let out = c.args.out.now in
    let at = c.loop-i in
    let end : at.i ≡ length out = omega arith in
    let none : drop at.i out ≡ [] = drop_of_length-le out {i = at.i} (omega arith) in
    let words : at.out ≡ words_in input 0 (length out) =
    at.invariant ∙ ap (λ l. words_in input 0 at.i ++ l) none ∙ append-nil (words_in input 0 at.i) ∙ ap (words_in input 0) end in
    words_there (length out) 0 input (omega arith) ∙ ap₂ (λ l n. got l (drop n input)) (sym words) (zero-add (4 * length out))

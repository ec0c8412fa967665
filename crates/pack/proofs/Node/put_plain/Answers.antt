-- `pack::Node::put_plain` meets its contract. Assumes nothing.
use Rattle.std.proofs.Common.{◌+◌, ◌-◌, ◌*◌, ◌%◌, ◌^◌, ◌∙◌, ap, arith}
use Rattle.model.specs.Reading.{kind_of}
use Rattle.bits.specs.Widths.{plain_width}
use Rattle.bits.specs.WidthLaws.{plain_few}
use Rattle.bits.specs.Splice.{low}
use Rattle.pack.specs.FlatLaws.{length_plain}
use Rattle.pack.specs.Places.{first}
use Rattle.pack.specs.Room.{room_width}
use Rattle.pack.proofs.Plain.{plain_leading}
use Rattle.pack.proofs.Putting.{same_put}
use Rattle.pack.proofs.Node.put_plain.Goals as goal

pub overflow_sub-other : goal.overflow_sub-other
overflow_sub-other c = let word = first c.args.self.now in omega (arith, c.requires.0, length_plain word, plain_few (kind_of word))

pub put_leading-requires : goal.put_leading-requires
put_leading-requires c =
    let word = first c.args.self.now in
    room_width _ (c.requires.0 ∙ length_plain word) (omega (arith, plain_few (kind_of word))) c.requires.1

pub returns : goal.returns
returns c =
    let word = first c.args.self.now in
    let k = kind_of word in
    let w = plain_width k in
    let n = c.args.bits in
    let width = c.requires.0 ∙ length_plain word in
    let from = c.from.ensures ∙ c.first-word.ensures in
    same_put (ap (λ x. low x (k * 2 ^ w + word % 2 ^ w)) width)
    (c.put_leading.ensures (k * 2 ^ w + word % 2 ^ w)
    ((λ i. c.kind.ensures i * 268435456 + (from i * 2 ^ (32 - n)) % 2 ^ 64 % c.from-2.ensures i)
    ∙ plain_leading word w n (plain_few k) (omega (arith, from)) width))

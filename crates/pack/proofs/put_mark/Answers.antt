-- `pack::put_mark` meets its contract. Assumes nothing.
use Rattle.std.proofs.Common.{arith, ap}
use Rattle.bits.specs.Splice.{low}
use Rattle.bits.specs.WidthLaws.{mark_few}
use Rattle.pack.specs.Room.{room_width}
use Rattle.pack.proofs.Putting.{same_put}
use Rattle.pack.proofs.put_mark.Goals as goal

pub put_bits-requires : goal.put_bits-requires
put_bits-requires c = room_width c.args.half c.mark_bits.ensures (omega (arith, mark_few c.args.half)) c.requires

pub returns : goal.returns
returns c = same_put (ap (λ w. low w c.args.half) c.mark_bits.ensures) c.put_bits.ensures

-- `join::Tables::put_join` meets its contract. Assumes nothing.
use Rattle.std.proofs.Common.{refl, length, take, arith}
use Rattle.model.specs.Join.{joined_bytes}
use Rattle.packing.specs.WrittenLaws.{written_same}
use Rattle.answer.proofs.Writing.{copy_written}
use Rattle.join.specs.JoiningLaws.{length_joined, result_parts}
use Rattle.join.proofs.Filling.{then_filled}
use Rattle.join.proofs.Tables.put_join.Goals as goal

pub returns : goal.returns
returns c =
    let longer = c.args.self.now.longer.now in
    let shorter = c.args.self.now.shorter.now in
    let long = length_joined longer shorter c.args.self.now.ordered in
    copy_written (joined_bytes longer shorter) c.args.out.now _ _ (omega arith)
    (written_same
    (then_filled (take (length shorter) (joined_bytes longer shorter)) c.args.out.now c.write_joined.new.out c.fill.new.self (length shorter) (length longer) 0 c.write_joined.ensures c.args.self.now.ordered
    c.if-out-size.false (c.fill.ensures.after (λ _ e. e)))
    (result_parts longer shorter c.args.self.now.ordered c.args.self.now.longer_clean c.requires (length shorter) refl))

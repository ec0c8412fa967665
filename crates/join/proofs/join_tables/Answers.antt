-- `join::join_tables` meets its contract: the order of the two makes no difference. Assumes nothing.
use lib.ListN.{length}
use Rattle.laws.proofs.JoinCalls.{join_order}
use Rattle.join.proofs.join_tables.Goals as goal

pub returns-then-one-two : goal.returns-then-one-two
returns-then-one-two c =
    rw (join_order c.args.one.now c.args.two.now (length c.args.out.now)) c.join_longer.ensures

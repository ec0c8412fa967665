-- `partial_list::end_list` meets its contract: by whether an arm is pending, and by the kind. Assumes nothing.
use native.Mathlib.Omega.{arith}
use borrow.Author.Tests.{not-false}
use Rattle.model.specs.Facts.{table_of}
use Rattle.partial_list.specs.Answers.{NodesEnd}
use Rattle.partial_list.proofs.Ending.{end_all, end_pending}
use Rattle.partial_list.proofs.end_list.Goals as goal
use Rattle.partial_list.proofs.end_list.Goals.{in-All, in-Any}

pub returns : goal.returns
returns c =
    let ends : NodesEnd c.args.kind (table_of c.args.walk.now.facts.now) c.args.walk.now.words.now c.args.sofar c.args.buf.now c.args.front.now c.match-kind.front c.match-kind.whole =
    elim c.match-kind.branch [
      | in-All w ↦ rw (w.in-All.is, w.front-is, w.whole-is) (end_all c.requires.0 _)
      | in-Any w ↦ rw (w.in-Any.is, w.front-is, w.whole-is) w.with_first_deny-whole.ensures
    ] in
    end_pending ends c.lead-first.ensures c.put_list-size.ensures (omega arith) (omega arith) (not-false _ c.if-not-sofar.false)

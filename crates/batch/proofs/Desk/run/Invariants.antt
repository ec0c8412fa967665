-- `batch::Desk::run` meets its contract. The loop's invariant: what stands afterwards is what stands so far, and the replies to the requests still to come.
-- Assumes nothing.
use Rattle.model.specs.Levels.{outcomes_of}
use Rattle.model.specs.Register.{entries_of}
use Rattle.outcome.specs.Carried.{carried}
use Rattle.batch.proofs.Running.{Standing}
use Rattle.batch.proofs.Desk.run.Given as goal

abbrev pub invariant-loop-i : goal.invariant-loop-i
invariant-loop-i l =
    Standing (outcomes_of (carried l.self.outcomes)) (entries_of l.self.entries.now) l.self.sheets.now l.whole l.allowance l.initial.replies l.initial.out l.replies l.out l.unspent l.used l.i

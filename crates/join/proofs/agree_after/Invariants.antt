-- `join::agree_after` meets its contract. The loop's invariant: the table agrees exactly where there is no mark so far and what is left agrees.
-- Assumes nothing.
use Rattle.std.proofs.Common.{◌≡◌, ◌&&◌, [], eqb, drop}
use Rattle.model.specs.Facts.{table_fields}
use Rattle.join.specs.Joining.{agree}
use Rattle.join.proofs.agree_after.Given as goal

abbrev pub invariant-loop-byte : goal.invariant-loop-byte
invariant-loop-byte l =
    agree (table_fields l.rest) [] ≡ (eqb l.marked 0 && agree (table_fields (drop l.byte-index l.rest)) [])

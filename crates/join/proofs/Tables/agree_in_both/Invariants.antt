-- `join::Tables::agree_in_both` meets its contract. The loop's invariant: the tables agree exactly where there is no mark so far and what is left agrees.
-- Assumes nothing.
use Rattle.std.proofs.Common.{◌≡◌, ◌&&◌, eqb, drop}
use Rattle.model.specs.Facts.{table_fields}
use Rattle.join.specs.Joining.{agree}
use Rattle.join.proofs.Tables.agree_in_both.Given as goal

abbrev pub invariant-loop-i : goal.invariant-loop-i
invariant-loop-i l =
    agree (table_fields l.self.longer.now) (table_fields l.self.shorter.now) ≡ (eqb l.marked 0 && agree (table_fields (drop l.i l.self.longer.now)) (table_fields (drop l.i l.self.shorter.now)))

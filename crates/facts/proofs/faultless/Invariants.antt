-- `facts::faultless` meets its contract. The loop's invariant: the table is faultless exactly where there is no mark so far and the bytes left
-- are faultless. Assumes nothing.
use mathlib.Core.Path.{◌≡◌}
use mathlib.Core.Bool.{◌&&◌}
use lib.Dec.{eqb}
use lib.ListN.{drop}
use Rattle.model.specs.Facts.{table_fields, first_fault}
use Rattle.facts.specs.Answers.{kind_of, no_fault}
use Rattle.facts.proofs.faultless.Given as goal

abbrev pub invariant-loop-byte : goal.invariant-loop-byte
invariant-loop-byte l =
    no_fault (first_fault (kind_of l.kind) (table_fields l.facts)) ≡ (eqb l.marked 0 && no_fault (first_fault (kind_of l.kind) (table_fields (drop l.byte-index l.facts))))

-- `facts::check_fields` meets its contract. The loop's invariant: the first fault is that of the fields left. Assumes nothing.
use Rattle.std.proofs.Common.{◌≡◌, drop}
use Rattle.model.specs.Facts.{table_fields, first_fault}
use Rattle.facts.specs.Answers.{kind_of}
use Rattle.facts.proofs.check_fields.Given as goal

abbrev pub invariant-loop-fact : goal.invariant-loop-fact
invariant-loop-fact l = first_fault (kind_of l.kind) (table_fields l.facts) ≡ first_fault (kind_of l.kind) (drop l.fact (table_fields l.facts))

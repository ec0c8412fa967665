-- An outcome table as the code carries it, none without one, and its two operations.
use Rattle.std.specs.Prelude.{Option as Carried, Some, None, List, ℕ}
use Rattle.std.proofs.Math.Option.{Option, none, some}
use Rattle.model.specs.Levels as model
use Rattle.outcome.specs.declared.OutcomeTable.{OutcomeTable}
use Rattle.outcome.specs.declared.Operation.{Operation}
use Rattle.outcome.specs.declared.Operation.TheVariants.{Meet, Join}

abbrev pub table : ℕ → List ℕ → model.OutcomeTable
table n bs = record { levels = n; bytes = bs }

abbrev pub table_of : OutcomeTable → model.OutcomeTable
table_of t = table t.levels t.bytes.now

abbrev pub carried : Carried OutcomeTable → Option model.OutcomeTable
carried None = none
carried (Some t) = some (table_of t)

abbrev pub operation_of : Operation → model.OutcomeTable → ℕ → ℕ → ℕ
operation_of Meet = model.meet_by
operation_of Join = model.join_by

-- What an operation makes of two outcomes: of levels by a table, of sets of products without one.
abbrev pub outcome_by : Operation → Option model.OutcomeTable → ℕ → ℕ → ℕ
outcome_by Meet = model.meet_of
outcome_by Join = model.join_of

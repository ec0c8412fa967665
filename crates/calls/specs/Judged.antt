-- The causes for which a call is turned back before its work, in document 01's order: the length (1), the table (2 to 4), the words (5 to 10), whose outcomes are
-- judged by the outcome table (request 14); and then, by request 6, the number (16).
use Rattle.std.specs.Prelude.{Bool, true, false, List, ℕ}
use Rattle.std.proofs.Math.Option.{Option, none, some}
use Rattle.model.specs.Facts.{TableKind, table_fault}
use Rattle.model.specs.Policy.{Policy}
use Rattle.model.specs.Record.{Record}
use Rattle.model.specs.Reading.{Parsed, refuse, got, sheet_length, record_length, read_sheet, read_record}
use Rattle.model.specs.Calls.{has_number, is_sheet_number}
use Rattle.model.specs.Levels.{OutcomeTable, outcomes_of}
use Rattle.model.specs.Products.{Outcome}

-- What is read of the words, or the number of the first cause.
abbrev pub judged : {A : Type 0} → Bool → Option ℕ → Parsed A → Parsed A
judged false fault q = refuse 1
judged true (some n) q = refuse n
judged true none q = q

-- What is read of the words, if their number is right.
abbrev pub of_number : {A : Type 0} → Bool → Parsed A → Parsed A
of_number right (refuse n) = refuse n
of_number true (got a ws) = got a ws
of_number false (got a ws) = refuse 16

-- What words read as by a table or without one.
abbrev pub read_sheet_by : Option OutcomeTable → List ℕ → Parsed (Policy Outcome)
read_sheet_by g = read_sheet (outcomes_of g).value

abbrev pub read_record_by : Option OutcomeTable → List ℕ → Parsed (Record Outcome)
read_record_by g = read_record (outcomes_of g).value

abbrev pub judged_sheet : Option OutcomeTable → TableKind → ℕ → List ℕ → List ℕ → Parsed (Policy Outcome)
judged_sheet g kind number sheet facts = judged (sheet_length sheet) (table_fault kind facts) (of_number (is_sheet_number number) (read_sheet_by g sheet))

abbrev pub judged_record : Option OutcomeTable → TableKind → ℕ → List ℕ → List ℕ → Parsed (Record Outcome)
judged_record g kind number words facts = judged (record_length words) (table_fault kind facts) (of_number (has_number words number) (read_record_by g words))

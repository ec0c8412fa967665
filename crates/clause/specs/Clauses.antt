-- A clause of the code as the model's clause, and how many words a decision's node takes. Document 01, "Policies" and "What a call receives".
use Rattle.std.specs.Prelude.{Bool, true, false, ◌&&◌, List, ℕ, ◌+◌, leb}
use Rattle.std.proofs.Math.Option.{Option}
use Rattle.model.specs.Fields.{words_for}
use Rattle.model.specs.Decision.{Denial}
use Rattle.model.specs.Writing.{most_listed, most_held}
use Rattle.model.specs.Reading.{shape_of}
use Rattle.model.specs.Products.{Outcome}
use Rattle.policy_model.specs.declared.DenyShape.{DenyShape}
use Rattle.policy_model.specs.Heads.{bit_of}
use Rattle.record.specs.Nodes.{mark_in}

-- A clause by the fields of its node: label and reason as 16 bits each, the shape, and the denied outcome, if present.
abbrev pub clause_by : ℕ → ℕ → DenyShape → Option ℕ → List ℕ → Denial Outcome
clause_by label reason shape denied fs = record { denied = denied; facts = fs; label = mark_in label; reason = mark_in reason; shape = shape_of (bit_of shape) }

-- A permit's node with n obligations and m facts, and a deny's with m facts.
abbrev pub decision_size : Bool → ℕ → ℕ → ℕ
decision_size true n m = 2 + words_for 4 n + words_for 2 m
decision_size false n m = 3 + words_for 2 m

-- Whether such a node's counts can say so many.
abbrev pub countable : Bool → ℕ → ℕ → Bool
countable true n m = leb m most_listed && leb n most_held
countable false n m = leb m most_listed

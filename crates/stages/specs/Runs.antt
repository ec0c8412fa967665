-- Calls that were run one after the other under one number, all by the same outcome table g or all by none, each answered as its contract says. Document 01,
-- "Stages", and requests 6 to 8, 13 and 14.
use Rattle.std.specs.Prelude.{◌≡◌, Result, Ok, Err, List, [], ◌∷◌, ℕ, length, take}
use Rattle.std.proofs.Math.Option.{Option, none}
use Rattle.model.specs.Facts.{table_of, partial_facts, table_fault}
use Rattle.model.specs.Levels.{OutcomeTable, outcomes_of}
use Rattle.model.specs.Decision.{Decision, products}
use Rattle.model.specs.Policy.{Policy}
use Rattle.model.specs.Partial.{resolved, Order, sheet_order}
use Rattle.model.specs.Record.{Record, tree}
use Rattle.model.specs.Reading as reading
use Rattle.model.specs.Reading.{Parsed, got, sheet_number}
use Rattle.model.specs.Products.{Outcome, eval_policy, reduced, read_record, evaluate, partial_evaluate, narrow_residual, complete_residual, required_residual_facts}
use Rattle.refusal.specs.declared.Refusal.{Refusal}
use Rattle.refusal.specs.declared.Refusal.TheVariants.{Contradiction}
use Rattle.required.specs.Answers as required
use Rattle.answer.specs.Answers.{Answer, Answered}
use Rattle.staging.specs.Bare.{bare}
use Rattle.staging.specs.Chain.{Step, InOrder, AllOf, run}
use Rattle.staging.specs.Statement.{AgreesOn, Settled, Roomy}

-- A call that was run: its table's bytes, its output before and after, and what it answered.
pub record Run : Type 0 where
  pub facts : List ℕ
  pub before : List ℕ
  pub after : List ℕ
  pub answer : Answer

abbrev pub run_of : List ℕ → List ℕ → List ℕ → Answer → Run
run_of facts before after answer = record { facts = facts; before = before; after = after; answer = answer }

-- A narrowing that was run, and its order: which pair's it is.
pub record Narrowing : Type 0 where
  pub order : Order
  pub ran : Run

abbrev pub Accepted : Answer → Type 0
Accepted (Ok n) = Unit {0}
Accepted (Err e) = ⊥

-- The record that the next call reads: the words that were written, or what was given where the call was refused.
abbrev pub handed_on : List ℕ → Answer → List ℕ → List ℕ
handed_on given (Ok n) after = take n after
handed_on given (Err e) after = given

abbrev pub record_after : List ℕ → List Narrowing → List ℕ
record_after given [] = given
record_after given (n ∷ ns) = record_after (handed_on given n.ran.answer n.ran.after) ns

-- The narrowings that were accepted, each with its order and its table.
abbrev pub step_of : Narrowing → Step
step_of n = record { order = n.order; table = table_of n.ran.facts }

abbrev pub if_accepted : Answer → Step → List Step → List Step
if_accepted (Ok n) s ss = s ∷ ss
if_accepted (Err e) s ss = ss

abbrev pub steps_of : List Narrowing → List Step
steps_of [] = []
steps_of (n ∷ ns) = if_accepted n.ran.answer (step_of n) (steps_of ns)

-- ---- runs of each call by a table, or without one, with the sheet's number: what the contract of the public function says
abbrev pub Evaluated : Option OutcomeTable → ℕ → List ℕ → Run → Type 0
Evaluated g number sheet s = Answered (evaluate g number sheet s.facts (length s.before)) s.before s.after s.answer

abbrev pub Reduced : Option OutcomeTable → Order → ℕ → List ℕ → Run → Type 0
Reduced g o number sheet s = Answered (partial_evaluate g o number sheet s.facts (length s.before)) s.before s.after s.answer

abbrev pub Narrowed : Option OutcomeTable → Order → ℕ → List ℕ → Run → Type 0
Narrowed g o number given s = Answered (narrow_residual g o number given s.facts (length s.before)) s.before s.after s.answer

abbrev pub Completed : Option OutcomeTable → ℕ → List ℕ → Run → Type 0
Completed g number given s = Answered (complete_residual g number given s.facts (length s.before)) s.before s.after s.answer

-- The required facts of a record: the set before and after, and what was answered.
pub record Asking : Type 0 where
  pub before : List ℕ
  pub after : List ℕ
  pub answer : Result ℕ Refusal

abbrev pub asking_of : List ℕ → List ℕ → Result ℕ Refusal → Asking
asking_of before after answer = record { before = before; after = after; answer = answer }

abbrev pub Asked : List ℕ → Asking → Type 0
Asked given a = required.Answered (required_residual_facts given) (required.tree_of (read_record given)) a.before a.after a.answer

-- Narrowings one after the other, refused ones included.
abbrev pub NarrowedAll : Option OutcomeTable → ℕ → List ℕ → List Narrowing → Type 0
NarrowedAll g number given [] = Unit {0}
NarrowedAll g number given (n ∷ ns) = Narrowed g n.order number given n.ran × NarrowedAll g number (handed_on given n.ran.answer n.ran.after) ns

-- What words read as, by the table.
abbrev pub read_by : Option OutcomeTable → List ℕ → Parsed (Record Outcome)
read_by g = reading.read_record (outcomes_of g).value

-- Words that read as a Resolved record whose decision is as said.
pub record ResolvedWith (g : Option OutcomeTable) (AsSaid : Decision Outcome → Type 0) (ws : List ℕ) : Type 0 where
  pub decided : Record Outcome
  pub reads : read_by g ws ≡ got decided []
  pub decision : Decision Outcome
  pub resolves : decided.body ≡ resolved decision
  pub same : AsSaid decision

-- What is claimed: `given` is the record of the first run, an accepted reduction of the sheet by the order o under the number; then the narrowings were run. All
-- calls have the table g, direct evaluation and the completion too.
pub record Guaranteed (g : Option OutcomeTable) (number : ℕ) (o : Order) (sheet known : List ℕ) (t : Policy Outcome) (first : Run) (given : List ℕ) (later : List Narrowing) : Type 0 where
  -- The record after them is the one that the rules give for the accepted narrowings.
  pub residual : Record Outcome
  pub reads : read_by g (record_after given later) ≡ got residual []
  pub by_the_rules : residual ≡ run (outcomes_of g) (reduced g o (table_of first.facts) t) (steps_of later)
  -- It carries the number.
  pub under : sheet_number (record_after given later) ≡ number
  -- No condition in it names a fact that one of their tables reads as Present or Absent.
  pub settled_first : Settled (tree residual) (table_of first.facts)
  pub settled_later : AllOf (λ s. Settled (tree residual) s.table) (steps_of later)
  -- Accepted direct evaluation with the known table gives the decision that the rules give, and an accepted completion its effect and products;
  pub evaluated : (s : Run) (n : ℕ) → s.facts ≡ known → Evaluated g number sheet s → s.answer ≡ Ok n
      → ResolvedWith g (λ d. d ≡ eval_policy g (table_of known) t) (take n s.after)
  pub completed : (s : Run) (n : ℕ) → s.facts ≡ known → Completed g number (record_after given later) s → s.answer ≡ Ok n
      → ResolvedWith g (λ d. products d ≡ products (eval_policy g (table_of known) t)) (take n s.after)
  -- if the reduction and every accepted narrowing are in sheet order, all of it but the fact list.
  pub in_order : o ≡ sheet_order → AllOf InOrder (steps_of later) → (s : Run) (n : ℕ) → s.facts ≡ known → Completed g number (record_after given later) s → s.answer ≡ Ok n
      → ResolvedWith g (λ d. bare d ≡ bare (eval_policy g (table_of known) t)) (take n s.after)
  -- No narrowing with a table that agrees, by either order, is turned back for contradicting the record.
  pub untouched : (by : Order) (s : Run) → AgreesOn t (table_of known) (table_of s.facts) → Narrowed g by number (record_after given later) s → s.answer ≡ Err Contradiction → ⊥
  -- With room enough each call is accepted whenever its table is faultless and, in a narrowing, agrees; a reduction and a narrowing by either order.
  pub room_evaluate : (s : Run) → s.facts ≡ known → Roomy sheet (length s.before) → Evaluated g number sheet s → Accepted s.answer
  pub room_reduce : (by : Order) (s : Run) → table_fault partial_facts s.facts ≡ none → Roomy sheet (length s.before) → Reduced g by number sheet s → Accepted s.answer
  pub room_narrow : (by : Order) (s : Run) → table_fault partial_facts s.facts ≡ none → AgreesOn t (table_of known) (table_of s.facts) → Roomy sheet (length s.before) → Narrowed g by number (record_after given later) s → Accepted s.answer
  pub room_complete : (s : Run) → s.facts ≡ known → Roomy sheet (length s.before) → Completed g number (record_after given later) s → Accepted s.answer

-- What the calls answer and leave in the output: document 01's number and word count for each case.
use Rattle.std.specs.Prelude.{◌≡◌, Bool, cond, List, ◌++◌, map, ℕ, ◌*◌, ◌≤◌, leb, length, drop, Result, Ok, Err}
use Rattle.model.specs.Facts.{Table}
use Rattle.model.specs.Fields.{pack}
use Rattle.model.specs.Policy.{Policy}
use Rattle.model.specs.Partial.{resolved}
use Rattle.model.specs.Consulted.{Consulted, once}
use Rattle.model.specs.Record.{Record}
use Rattle.model.specs.Writing.{entry_bits, entry_field}
use Rattle.model.specs.Calls as model
use Rattle.model.specs.Products.{Outcome, read_policy, write}
use Rattle.model.specs.Reading.{levels}
use Rattle.laws.proofs.FieldLaws.{Holds}
use Rattle.laws.proofs.ReadForm.{Named}
use Rattle.decision.specs.declared.Decision.{Decision}
use Rattle.decision.specs.Meaning.{decision_of, Sound}
use Rattle.refusal.specs.declared.Refusal.{Refusal}
use Rattle.refusal.specs.Numbers.{by_number}

-- What a function answers: how many words it wrote, or its refusal.
abbrev pub Answer : Type 0
Answer = Result ℕ Refusal

-- The number is 0 where words were written, and their count 0 where the call is refused.
abbrev pub number_of : Result ℕ ℕ → ℕ
number_of (Ok n) = 0
number_of (Err n) = n

abbrev pub written_of : Result ℕ ℕ → ℕ
written_of (Ok n) = n
written_of (Err n) = 0

-- The answer to what the model's call gives, its refusal a number.
abbrev pub answer_of : model.Answer → Result ℕ ℕ
answer_of (model.refusal n) = Err n
answer_of (model.wrote ws) = Ok (length ws)

-- The answer, and the output afterwards, are those of the model's call.
pub record Answered (a : model.Answer) (before after : List ℕ) (r : Answer) : Type 0 where
  pub answer_is : by_number r ≡ answer_of a
  pub output_is : after ≡ model.afterwards a before

-- The words as they stand; 11 when the output is shorter.
abbrev pub copied : List ℕ → ℕ → model.Answer
copied ws room = cond (leb (length ws) room) (model.wrote ws) (model.refusal 11)

-- A Resolved record was written: that of the decision and the consulted list which the walk left, whatever they stand for.
pub record Put (W : List ℕ) (T : Table) (buf : List ℕ) (d : Decision) (entries : List ℕ) (before after : List ℕ) (r : Answer) : Type 0 where
  pub put : (l : Consulted) → Sound W buf d → entries ≡ map entry_field l → Answered (write (length before) (record { body = resolved (decision_of W T buf d); log = l })) before after r

-- The record that a call wrote carries the number afterwards, whatever the call.
pub record Numbered (number : ℕ) (written after : List ℕ) (answer r : Answer) : Type 0 where
  pub numbers : (a : model.Answer) (before : List ℕ) → Answered a before written answer → Answered (model.under number a) before after r

-- The record that `made` gives of the policy at `at`, after the `count` entries that stand after the first word, once each, the first one kept, was
-- written or refused. Of a sheet there are none, and the policy stands at 0.
pub record Makes (made : Policy Outcome → Consulted → Record Outcome) (W : List ℕ) (count at : ℕ) (before after : List ℕ) (r : Answer) : Type 0 where
  pub makes : (es : Consulted) (others : List ℕ) → Named es → count ≡ length es → at ≤ length W → length es ≤ 2 * at → pack entry_bits (map entry_field es) ++ others ≡ drop 1 W → (res : Bool) →
      Holds (λ p rest. Answered (write (length before) (made p (once es))) before after r) (read_policy res levels (drop at W))

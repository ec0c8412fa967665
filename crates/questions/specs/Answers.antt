-- What an answer stands for: document 01's number, and yes or no; and where a record's tree stands.
use Rattle.std.specs.Prelude.{◌≡◌, Bool, false, Result, Ok, Err, List, [], ℕ, zero, suc, ◌≤◌, length}
use Rattle.model.specs.Policy.{Policy}
use Rattle.model.specs.Record.{Record, tree}
use Rattle.model.specs.Reading.{Parsed, refuse, got, record_words}
use Rattle.model.specs.Required.{Asked}
use Rattle.model.specs.Products.{Outcome, policy_at}
use Rattle.refusal.specs.declared.Refusal.{Refusal}
use Rattle.refusal.specs.Numbers.{number_of}

-- The number is 0 where the question is answered, and the answer no where it is refused.
abbrev pub asked : Result Bool ℕ → Asked
asked (Ok b) = record { number = 0; yes = b }
asked (Err n) = record { number = n; yes = false }

-- The answer to what the model tells: yes or no where the number is 0, or else the refusal.
abbrev pub answer : ℕ → Bool → Result Bool ℕ
answer zero b = Ok b
answer (suc n) b = Err (suc n)

abbrev pub told_of : Asked → Result Bool ℕ
told_of a = answer a.number a.yes

-- The tree at `at` is t: it reads, to the last word, in words of a record's length.
pub record Stands (words : List ℕ) (at : ℕ) (t : Policy Outcome) : Type 0 where
  pub depth : ℕ
  pub reads : policy_at words at depth ≡ got t []
  pub few : length words ≤ record_words

pub record SomeTree (words : List ℕ) (at : ℕ) : Type 0 where
  pub it : Policy Outcome
  pub stands : Stands words at it

-- The place of a record's tree, or the number of the refusal, as the record reads.
unfoldable pub Found : List ℕ → Parsed (Record Outcome) → Result ℕ Refusal → Type 0
Found words (refuse n) (Ok at) = ⊥
Found words (refuse n) (Err e) = number_of e ≡ n
Found words (got r ws) (Ok at) = Stands words at (tree r)
Found words (got r ws) (Err e) = ⊥

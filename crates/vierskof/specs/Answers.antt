-- What an exported call returns: document 01's number times 2^32, 0 when accepted, and the call's value.
use Rattle.std.specs.Prelude.{◌≡◌, Bool, List, ℕ, ◌+◌, ◌*◌, ◌^◌, Option, Some, None, Result, Ok, Err}
use Rattle.model.specs.Writing.{sheet_bits}
use Rattle.model.specs.Required.{Required, one_bit, Asked}
use Rattle.model.specs.Calls.{Answer, number_of, written_of, afterwards}
use Rattle.model.specs.Register as register
use Rattle.model.specs.Calendar.{Date}
use Rattle.model.specs.Batch.{Batch, batch_number, replies_after, output_after}
use Rattle.required.specs.Answers.{set_after}

-- Of an answer: its refusal's number times 2^32, or the value of what it gives.
abbrev pub in_one : {A : Type 0} → (A → ℕ) → Result A ℕ → ℕ
in_one value (Ok a) = value a
in_one value (Err n) = n * 2 ^ 32

-- The values: words, bytes and facts by their count, yes as 1, and the sheet in force by its number, where there is none by one that no sheet has.
abbrev pub itself : ℕ → ℕ
itself n = n

abbrev pub one_bit_of : Bool → ℕ
one_bit_of b = one_bit b

abbrev pub none_or : Option ℕ → ℕ
none_or (Some n) = n
none_or None = 2 ^ sheet_bits

abbrev pub returned : ℕ → ℕ → ℕ
returned number value = number * 2 ^ 32 + value

-- Required facts: the count, and the set afterwards; a set that doesn't have sixteen numbers is left as it was.
pub record Requires (m : Required) (before after : List ℕ) (r : ℕ) : Type 0 where
  pub answer : r ≡ returned m.number m.count
  pub set_is : after ≡ set_after before m.set

-- A call that writes: the words or bytes written, and the output afterwards.
pub record Writes (a : Answer) (before after : List ℕ) (r : ℕ) : Type 0 where
  pub answer : r ≡ returned (number_of a) (written_of a)
  pub output_is : after ≡ afterwards a before

-- A batch: its number, and the places for the replies and the output afterwards.
pub record Batches (b : Batch) (places places_after out out_after : List ℕ) (r : ℕ) : Type 0 where
  pub answer : r ≡ batch_number b
  pub replies_are : places_after ≡ replies_after b places
  pub output_is : out_after ≡ output_after b out

-- A question: 1 for yes, 0 for no.
abbrev pub said : Asked → ℕ
said a = returned a.number (one_bit a.yes)

-- The sheet in force: its number, or that of none.
abbrev pub named : register.InForce → ℕ
named a = returned (register.number_of a) (register.value_of a)

-- A date passes as three numbers.
abbrev pub dated : ℕ → ℕ → ℕ → Date
dated year month day = record { year = year; month = month; day = day }

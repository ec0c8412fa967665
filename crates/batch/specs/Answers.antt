-- What the parts of a batch answer, and what they leave in the output and in the places for the replies. Request 10.
use Rattle.std.specs.Prelude.{◌≡◌, Bool, true, false, cond, List, [], ◌∷◌, ◌++◌, ℕ, zero, suc, ◌+◌, ◌*◌, ◌/◌, ◌%◌, ◌^◌, ◌<◌, leb, length, take, drop, Option, Some, None, Result, Ok, Err}
use Rattle.std.specs.Borrow.{Bor}
use Rattle.std.proofs.Math.Option.{Option as Maybe, none, some}
use Rattle.model.specs.Writing.{sheet_bits}
use Rattle.model.specs.Batch as model
use Rattle.model.specs.Batch.{Handed, sheet_of, record_of, records_of, output_after, replies_after}
use Rattle.refusal.specs.declared.Refusal.{Refusal}
use Rattle.refusal.specs.Numbers.{by_number}
use Rattle.batch.specs.declared.Decided.{Decided}

-- ---- the sheets handed over
abbrev pub handed : ℕ → List ℕ → Handed
handed number words = record { number = number; words = words }

-- Whether the list ends with a sheet's last word.
abbrev pub is_whole : Maybe (List Handed) → Bool
is_whole none = false
is_whole (some hs) = true

-- The sheets up to where one ends early; of a list that is whole, all of them. The first number only bounds the recursion.
abbrev pub whole_by : ℕ → List ℕ → List Handed
whole_by zero ws = []
whole_by (suc n) [] = []
whole_by (suc n) (w ∷ ws) =
    cond (leb (w % 2 ^ sheet_bits) (length ws))
    (handed (w / 2 ^ sheet_bits) (take (w % 2 ^ sheet_bits) ws) ∷ whole_by n (drop (w % 2 ^ sheet_bits) ws))
    []

abbrev pub whole_sheets : List ℕ → List Handed
whole_sheets ws = whole_by (length ws) ws

-- The sheet of these words; its number is one that a record can carry.
abbrev pub found_of : ℕ → Option (Bor (List ℕ)) → Maybe Handed
found_of number (Some words) = some (handed number words.now)
found_of number None = none

abbrev pub Carries : ℕ → Option (Bor (List ℕ)) → Type 0
Carries number (Some words) = number < 2 ^ sheet_bits
Carries number None = Unit {0}

pub record Finds (sheets : List ℕ) (number : ℕ) (r : Option (Bor (List ℕ))) : Type 0 where
  pub carries : Carries number r
  pub finds : found_of number r ≡ sheet_of number (whole_sheets sheets)

-- ---- replies
-- A reply with its refusal as a number.
abbrev pub Reply : Type 0
Reply = Result (Option Decided) ℕ

-- The reply to what the model's is; its number, and what it takes.
abbrev pub reply_meant : model.Reply → Reply
reply_meant model.no_sheet = Ok None
reply_meant (model.refused n) = Err n
reply_meant (model.decided ws nodes) = Ok (Some (record { words = length ws; nodes = nodes }))

abbrev pub number_of : Reply → ℕ
number_of (Ok None) = 0
number_of (Ok (Some d)) = d.nodes * 2 ^ 16 + d.words
number_of (Err n) = n * 2 ^ 32

abbrev pub taken : Reply → Decided
taken (Ok None) = record { words = 0; nodes = 0 }
taken (Ok (Some d)) = d
taken (Err n) = record { words = 0; nodes = 0 }

-- The reply is the model's, and its record stands at the start of what the request was lent of the output.
pub record Replies (a : model.Reply) (before after : List ℕ) (r : Result (Option Decided) Refusal) : Type 0 where
  pub reply_is : by_number r ≡ reply_meant a
  pub output_is : after ≡ record_of a ++ drop (length (record_of a)) before

-- ---- the batch
-- The answer to what the model's batch comes to: the case and its number, not the number returned alone, which a refusal and words written can share.
abbrev pub batch_meant : model.Batch → Result ℕ ℕ
batch_meant (model.turned_back n) = Err n
batch_meant (model.answers rs) = Ok (length (records_of rs))

-- The batch is the model's: its answer, the places for the replies and the output afterwards.
pub record Runs (b : model.Batch) (places places_after out out_after : List ℕ) (r : Result ℕ Refusal) : Type 0 where
  pub batch_is : by_number r ≡ batch_meant b
  pub replies_are : places_after ≡ replies_after b places
  pub output_is : out_after ≡ output_after b out

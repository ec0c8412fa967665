-- A stored answer: eight numbers of 16 bits, the table, the words, and the words that stand first in the output afterwards.
use Rattle.std.specs.Prelude.{◌≡◌, Bool, cond, ◌&&◌, List, ◌++◌, ℕ, ◌+◌, ◌*◌, ◌<◌, ◌≤◌, eqb, leb, length, take, drop, get_or, Option, Some, None}
use Rattle.listing.specs.Inputs.{words_in}
use Rattle.vectors.specs.Words.{same_words, marks}
use Rattle.vectors.specs.declared.Call.{Call}
use Rattle.vectors.specs.declared.Reply.{Reply}
use Rattle.vectors.specs.Replies.{Replies, Replied, reply_to}

-- The eight numbers: call, room, table bytes, words, number, value, answer words, the sheet's number.
abbrev pub number_bytes : ℕ
number_bytes = 16

abbrev pub number_in : List ℕ → ℕ → ℕ
number_in bs k = get_or bs (2 * k) 0 * 256 + get_or bs (2 * k + 1) 0

-- Where the words and the answer's words begin, and where the next stored answer does.
abbrev pub words_at : List ℕ → ℕ
words_at bs = number_bytes + number_in bs 2

abbrev pub answer_at : List ℕ → ℕ
answer_at bs = words_at bs + 4 * number_in bs 3

abbrev pub whole_size : List ℕ → ℕ
whole_size bs = answer_at bs + 4 * number_in bs 6

-- The bytes that the stored answer at the front takes, if it is whole.
abbrev pub is_whole : List ℕ → Bool
is_whole bs = leb number_bytes (length bs) && leb (whole_size bs) (length bs)

abbrev pub size_of : List ℕ → Option ℕ
size_of bs = cond (is_whole bs) (Some (whole_size bs)) None

pub record Whole (bs : List ℕ) : Type 0 where
  pub numbers : number_bytes ≤ length bs
  pub bytes : whole_size bs ≤ length bs

-- Buffers of the lengths that it says.
pub record Fitted (bs words expected out : List ℕ) : Type 0 where
  pub whole : Whole bs
  pub words_fit : length words ≡ number_in bs 3
  pub answer_fits : number_in bs 6 ≤ number_in bs 1
  pub room : number_in bs 1 < 65536
  pub expected_fits : length expected ≡ number_in bs 1
  pub out_fits : length out ≡ number_in bs 1

-- ---- what it says

-- The output that it expects: its words, and after them what stood there.
abbrev pub expected_in : List ℕ → List ℕ
expected_in bs = words_in bs (answer_at bs) (number_in bs 6) ++ drop (number_in bs 6) (marks (number_in bs 1))

-- What a call gives to its words and its table.
abbrev pub replies_in : Call → List ℕ → Replies
replies_in call bs = reply_to call (number_in bs 7) (words_in bs (words_at bs) (number_in bs 3)) (take (number_in bs 2) (drop number_bytes bs)) (marks (number_in bs 1))

-- The call ran, and what is expected stands beside its output.
pub record Ran (call : Call) (bs expected out : List ℕ) (r : Reply) : Type 0 where
  pub expected_is : expected ≡ expected_in bs
  pub given : Replied (replies_in call bs) out r

-- The same number, the same value, the same output.
abbrev pub told_in : List ℕ → ℕ → ℕ → Bool
told_in bs number value = eqb number (number_in bs 4) && eqb value (number_in bs 5)

unfoldable pub answers_in : Call → List ℕ → Bool
answers_in call bs = told_in bs (replies_in call bs).number (replies_in call bs).value && same_words (replies_in call bs).output (expected_in bs)

-- An answer that is longer than its room is none.
unfoldable pub agrees_in : Call → List ℕ → Bool
agrees_in call bs = leb (number_in bs 6) (number_in bs 1) && answers_in call bs

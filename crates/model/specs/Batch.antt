-- The release desk's batch of requests, each decided by the sheet in force, within an allowance of visited nodes. Request 10.
-- Order of the batch's causes: 21 for an outcome table, 1, a faulty register (15), a sheet list that ends early (6), 11 for too few places for the replies.
use Rattle.std.specs.Prelude.{Bool, true, false, cond, ◌&&◌, List, [], ◌∷◌, ◌++◌, ℕ, zero, suc, ◌+◌, ◌-◌, ◌*◌, ◌/◌, ◌%◌, ◌^◌, eqb, ltb, leb, length, take, drop, get_or}
use Rattle.std.proofs.Math.Option.{Option, none, some}
use Rattle.model.specs.Fields.{split}
use Rattle.model.specs.Facts.{Table, table_of, known_facts, table_fault}
use Rattle.model.specs.Outcome.{Outcomes}
use Rattle.model.specs.Policy.{Policy}
use Rattle.model.specs.Record.{evaluated}
use Rattle.model.specs.Writing.{sheet_bits}
use Rattle.model.specs.Reading.{Parsed, refuse, got, sheet_length, read_sheet}
use Rattle.model.specs.Calls.{Answer, refusal, wrote, unless_long, unless_fault, on_read, unless_other, is_sheet_number, under, write}
use Rattle.model.specs.Levels.{OutcomeTable, outcomes_of, acceptable}
use Rattle.model.specs.Register.{Entry, entries_of, is_register, in_force}
use Rattle.model.specs.Visits.{visits}

-- ---- a request is 66 words: group (8), table length in bytes (24), day (32), then the table, four bytes a word
pub record Request : Type 0 where
  pub group : ℕ
  pub day : ℕ
  pub facts : List ℕ

abbrev pub length_bits : ℕ
length_bits = 24

abbrev pub table_words : ℕ
table_words = 64

abbrev pub request_words : ℕ
request_words = 2 + table_words

-- The bytes of words, the leftmost of each first.
abbrev pub bytes_of : List ℕ → List ℕ
bytes_of [] = []
bytes_of (w ∷ ws) = split 8 4 w ++ bytes_of ws

-- Bytes past the length are ignored. A length beyond the bytes that are there is that of a table which is too long: one byte more says so.
abbrev pub table_in : ℕ → List ℕ → List ℕ
table_in n ws = take n (bytes_of ws ++ 0 ∷ [])

abbrev pub request_of : List ℕ → Request
request_of ws =
    record {
      group = get_or ws 0 0 / 2 ^ length_bits;
      day = get_or ws 1 0;
      facts = table_in (get_or ws 0 0 % 2 ^ length_bits) (take table_words (drop 2 ws));
    }

-- So many requests, one after the other.
abbrev pub requests_of : ℕ → List ℕ → List Request
requests_of zero ws = []
requests_of (suc n) ws = request_of ws ∷ requests_of n (drop request_words ws)

abbrev pub request_count : List ℕ → ℕ
request_count requests = length requests / request_words

-- ---- a sheet is handed over as number (16), word count (16) and its words
pub record Handed : Type 0 where
  pub number : ℕ
  pub words : List ℕ

abbrev pub and_then : Handed → Option (List Handed) → Option (List Handed)
and_then h none = none
and_then h (some hs) = some (h ∷ hs)

-- None when the list ends early. The first number only bounds the recursion: no list has more sheets than words.
abbrev pub handed_by : ℕ → List ℕ → Option (List Handed)
handed_by zero [] = some []
handed_by zero (w ∷ ws) = none
handed_by (suc n) [] = some []
handed_by (suc n) (w ∷ ws) =
    cond (leb (w % 2 ^ sheet_bits) (length ws))
    (and_then (record { number = w / 2 ^ sheet_bits; words = take (w % 2 ^ sheet_bits) ws }) (handed_by n (drop (w % 2 ^ sheet_bits) ws)))
    none

abbrev pub handed_over : List ℕ → Option (List Handed)
handed_over ws = handed_by (length ws) ws

-- The first of a number counts, faulty or not; the others are not judged.
abbrev pub sheet_of : ℕ → List Handed → Option Handed
sheet_of n [] = none
sheet_of n (h ∷ hs) = cond (eqb h.number n) (some h) (sheet_of n hs)

-- The sheet that decides: the one in force, if it was handed over.
abbrev pub of_entry : Option Entry → List Handed → Option Handed
of_entry none hs = none
of_entry (some e) hs = sheet_of e.number hs

-- ---- each request's answer is none, its refusal, or the words written and the node count
pub data Reply : Type 0 where
  no_sheet : Reply
  refused : ℕ → Reply
  decided : List ℕ → ℕ → Reply

abbrev pub reply_of : Answer → ℕ → Reply
reply_of (refusal n) nodes = refused n
reply_of (wrote ws) nodes = decided ws nodes

-- A request refused by any number takes nothing from the allowance and writes nothing, and one without a sheet counts 0.
abbrev pub nodes_of : Reply → ℕ
nodes_of no_sheet = 0
nodes_of (refused n) = 0
nodes_of (decided ws nodes) = nodes

abbrev pub record_of : Reply → List ℕ
record_of no_sheet = []
record_of (refused n) = []
record_of (decided ws nodes) = ws

-- As one number: 0 for none; the refusal's times 2^32; or the node count times 2^16 and the words written.
abbrev pub reply_number : Reply → ℕ
reply_number no_sheet = 0
reply_number (refused n) = n * 2 ^ 32
reply_number (decided ws nodes) = nodes * 2 ^ 16 + length ws

-- ---- a batch: its refusal, and nothing is decided; or the requests' answers in order
pub data Batch : Type 0 where
  turned_back : ℕ → Batch
  answers : List Reply → Batch

-- Records follow one another in one output.
abbrev pub records_of : List Reply → List ℕ
records_of [] = []
records_of (r ∷ rs) = record_of r ++ records_of rs

abbrev pub numbers_of : List Reply → List ℕ
numbers_of [] = []
numbers_of (r ∷ rs) = reply_number r ∷ numbers_of rs

-- The output and the places for the replies afterwards: what stood after the last record and after the last reply stays.
abbrev pub output_after : Batch → List ℕ → List ℕ
output_after (turned_back n) out = out
output_after (answers rs) out = records_of rs ++ drop (length (records_of rs)) out

abbrev pub replies_after : Batch → List ℕ → List ℕ
replies_after (turned_back n) places = places
replies_after (answers rs) places = numbers_of rs ++ drop (length rs) places

-- What is returned: the batch's refusal times 2^32, or the words written in all.
abbrev pub batch_number : Batch → ℕ
batch_number (turned_back n) = n * 2 ^ 32
batch_number (answers rs) = length (records_of rs)

-- 1 for over 64 requests, a partial one, or an allowance over 65,535.
abbrev pub is_batch : List ℕ → ℕ → Bool
is_batch requests allowance = eqb (length requests % request_words) 0 && (leb (length requests) (64 * request_words) && ltb allowance (2 ^ 16))

abbrev pub unless_part : Bool → Batch → Batch
unless_part true b = b
unless_part false b = turned_back 1

abbrev pub unless_faulty : Bool → Batch → Batch
unless_faulty true b = b
unless_faulty false b = turned_back 15

abbrev pub on_handed : Option (List Handed) → (List Handed → Batch) → Batch
on_handed none k = turned_back 6
on_handed (some hs) k = k hs

abbrev pub unless_few : Bool → Batch → Batch
unless_few true b = b
unless_few false b = turned_back 11

-- 18 when the request's whole count exceeds what remains.
abbrev pub unless_over : Bool → Answer → Answer
unless_over true a = a
unless_over false a = refusal 18

module _ (L : Outcomes) where
  -- The nodes that a sheet's direct evaluation visits.
  abbrev pub visited : Parsed (Policy L.O) → Table → ℕ
  visited (refuse n) T = 0
  visited (got t ws) T = visits L T t

  -- Direct evaluation while so many nodes remain: 18 stands after the table's and the sheet's own faults and before 11.
  abbrev pub evaluate_within : ℕ → ℕ → List ℕ → List ℕ → ℕ → Answer
  evaluate_within left number sheet facts room =
      unless_long (sheet_length sheet) (unless_fault (table_fault known_facts facts)
      (on_read (read_sheet L.value sheet) (λ t. unless_over (leb (visits L (table_of facts) t) left)
      (unless_other (is_sheet_number number) (under number (write L room (evaluated L (table_of facts) t)))))))

  -- Without a sheet the answer is none, before the table is read.
  abbrev pub decide_by : Option Handed → List ℕ → ℕ → ℕ → Reply
  decide_by none facts left room = no_sheet
  decide_by (some h) facts left room =
      reply_of (evaluate_within left h.number h.words facts room) (visited (read_sheet L.value h.words) (table_of facts))

  abbrev pub reply : List Entry → List Handed → ℕ → ℕ → Request → Reply
  reply es hs left room q = decide_by (of_entry (in_force q.group q.day es) hs) q.facts left room

  -- One after the other, with what those before leave of the allowance and of the output: after an unaffordable request the later ones are still tried.
  abbrev pub replies : List Entry → List Handed → ℕ → ℕ → List Request → List Reply
  replies es hs left room [] = []
  replies es hs left room (q ∷ qs) =
      let r = reply es hs left room q in
      r ∷ replies es hs (left - nodes_of r) (room - length (record_of r)) qs

  -- The register, the sheets, the requests and the allowance; and how many replies and how many words there is room for.
  abbrev pub batch : List ℕ → List ℕ → List ℕ → ℕ → ℕ → ℕ → Batch
  batch register sheets requests allowance places room =
      unless_part (is_batch requests allowance) (
      unless_faulty (is_register register) (
      on_handed (handed_over sheets) (λ hs.
      unless_few (leb (request_count requests) places) (
      answers (replies (entries_of register) hs allowance room (requests_of (request_count requests) requests))))))

-- The call, with one outcome table for the whole batch or without: 21 before every other cause.
abbrev pub evaluate_batch : Option OutcomeTable → List ℕ → List ℕ → List ℕ → ℕ → ℕ → ℕ → Batch
evaluate_batch g register sheets requests allowance places room =
    cond (acceptable g) (batch (outcomes_of g) register sheets requests allowance places room) (turned_back 21)

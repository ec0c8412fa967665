-- What the replies of a batch tell, and what a caller reads off their numbers and off the batch's. Request 10.
use Rattle.std.specs.Prelude.{◌≡◌, ◌⊎◌, cond, List, [], ◌∷◌, ℕ, ◌+◌, ◌/◌, ◌%◌, ◌^◌, ◌≤◌, ◌<◌, eqb, leb, length}
use Rattle.model.specs.Reading.{sheet_words, record_words}
use Rattle.model.specs.Calls.{refusal}
use Rattle.model.specs.Batch.{Reply, no_sheet, refused, decided, nodes_of, Batch, turned_back, answers, batch_number}
use Rattle.laws.specs.Numbers.{Told, Unaffordable}

-- Nodes of all replies.
abbrev pub spent : List Reply → ℕ
spent [] = 0
spent (r ∷ rs) = nodes_of r + spent rs

-- Of a record: its tree's first node is visited, and no more nodes than a sheet has words.
pub record Counts (words nodes : ℕ) : Type 0 where
  pub some_nodes : 0 < nodes
  pub few_nodes : nodes ≤ sheet_words
  pub few_words : words ≤ record_words

-- A refusal has a number of the tables or 18.
abbrev pub ToldReply : Reply → Type 0
ToldReply no_sheet = Unit {0}
ToldReply (refused n) = Told Unaffordable (refusal n)
ToldReply (decided ws nodes) = Counts (length ws) nodes

abbrev pub ToldReplies : List Reply → Type 0
ToldReplies [] = Unit {0}
ToldReplies (r ∷ rs) = ToldReply r × ToldReplies rs

-- A batch is turned back with 21, 1, 15, 6 or 11; or there are at most 64 replies.
abbrev pub BatchCause : ℕ → Type 0
BatchCause n = (n ≡ 21) ⊎ ((n ≡ 1) ⊎ ((n ≡ 15) ⊎ ((n ≡ 6) ⊎ (n ≡ 11))))

abbrev pub ToldBatch : Batch → Type 0
ToldBatch (turned_back n) = BatchCause n
ToldBatch (answers rs) = ToldReplies rs × (length rs ≤ 64)

-- ---- what is read: none, a refusal, or how many words were written and how many nodes were visited
pub data Said : Type 0 where
  nothing : Said
  refusing : ℕ → Said
  deciding : ℕ → ℕ → Said

-- A reply, of its record the word count alone: the words themselves stand in the output.
abbrev pub said_by : Reply → Said
said_by no_sheet = nothing
said_by (refused n) = refusing n
said_by (decided ws nodes) = deciding (length ws) nodes

-- 0; a refusal from 2^32 on; else nodes and words, quotient and remainder by 2^16.
abbrev pub read_reply : ℕ → Said
read_reply n = cond (eqb n 0) nothing (cond (leb (2 ^ 32) n) (refusing (n / 2 ^ 32)) (deciding (n % 2 ^ 16) (n / 2 ^ 16)))

-- Of a batch: the words written in all are below 2^32, and a refusal stands above them.
abbrev pub ReadsBatch : Batch → Type 0
ReadsBatch (turned_back n) = (2 ^ 32 ≤ batch_number (turned_back n)) × (batch_number (turned_back n) / 2 ^ 32 ≡ n)
ReadsBatch (answers rs) = batch_number (answers rs) < 2 ^ 32

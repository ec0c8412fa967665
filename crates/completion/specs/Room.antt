-- Room for a walk over words that were checked.
use Rattle.std.specs.Prelude.{◌≡◌, ℕ, ◌+◌, ◌*◌, ◌≤◌, min}
use Rattle.model.specs.Facts.{fact_count}
use Rattle.model.specs.Reading.{levels, record_words}
use Rattle.model.specs.Writing.{most_listed}
use Rattle.decision.specs.Room.{obligation_room}

-- Of so many words a tree has no more levels than `depth`, and the lists have room: for the facts that are consulted, two for a word at most and no more than
-- there are; for the obligations that are united, at each level and in the arm below it; and for the facts of one clause.
pub record RoomToWalk (words depth listed bytes named : ℕ) : Type 0 where
  pub few_words : words ≤ record_words
  pub few_levels : depth ≤ levels
  pub levels_enough : min levels words ≤ depth
  pub few_listed : listed ≤ fact_count
  pub listed_enough : min fact_count (2 * words) ≤ listed
  pub bytes_are : bytes ≡ obligation_room * (depth + 1)
  pub few_named : named ≤ record_words
  pub named_enough : words ≤ named
  pub longest_named : min (2 * words) most_listed ≤ named

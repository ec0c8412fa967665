-- Room for what is left of a tree: it takes at most three times the words, and no record has more than the most.
use Rattle.std.specs.Prelude.{ℕ, ◌*◌, ◌≤◌, min}
use Rattle.sizes.specs.Laid.{most_words}

pub record RoomToLeave (words left : ℕ) : Type 0 where
  pub enough : min (3 * words) most_words ≤ left
  pub few : left ≤ most_words

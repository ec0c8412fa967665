-- What a writer leaves in the output that it is lent: its words, and after them what stood there. Document 01, "Writing".
use Rattle.std.specs.Prelude.{◌≡◌, List, ◌++◌, ℕ, ◌≤◌, length, take, drop}

-- `n` words were written into `out`, which is `after` now.
pub record Written (words out after : List ℕ) (n : ℕ) : Type 0 where
  pub number : n ≡ length words
  pub output : after ≡ words ++ drop n out

-- The first j of the words are written.
pub record Sofar (words out after : List ℕ) (j : ℕ) : Type 0 where
  pub few : j ≤ length words
  pub long : length after ≡ length out
  pub output : after ≡ take j words ++ drop j out

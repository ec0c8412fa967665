-- What a writer of bits leaves: the bits before, the bits written, 0 bits to the end of the last byte. What follows may be anything, so that a writer may
-- store more bytes than it needs.
use Rattle.std.specs.Prelude.{◌≡◌, List, ◌++◌, ℕ, ◌+◌, ◌-◌, ◌*◌, ◌%◌, ◌^◌, length, take, replicate}
use Rattle.model.specs.Fields.{split, words_for}
use Rattle.model.specs.Bits.{bits_of, run_of}

-- The low bits of a number.
unfoldable pub low : ℕ → ℕ → List ℕ
low width v = bits_of width (v % 2 ^ width)

-- The bits of the bytes that hold so many bits, and the 0 bits that fill the last of them.
abbrev pub whole : ℕ → ℕ
whole n = 8 * words_for 8 n

abbrev pub fill : ℕ → List ℕ
fill n = replicate (whole n - n) 0

-- Bits were put at `at` into `before`, which is `after` now, and end at `r`.
pub record Spliced (before after : List ℕ) (at : ℕ) (bs : List ℕ) (r : ℕ) : Type 0 where
  pub next : r ≡ at + length bs
  pub run : take (whole r) (run_of after) ≡ take at (run_of before) ++ (bs ++ fill r)
  pub long : length after ≡ length before

-- The first bytes are the first of a number of four.
pub record Stored (count window : ℕ) (before after : List ℕ) : Type 0 where
  pub first : take count after ≡ take count (split 8 4 window)
  pub long : length after ≡ length before

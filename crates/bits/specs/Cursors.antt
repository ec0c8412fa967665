-- A cursor in bytes that bits are put into: what is begun of its byte, and what was put from one cursor to another.
use Rattle.std.specs.Prelude.{◌≡◌, List, ◌++◌, ℕ, ◌+◌, ◌-◌, ◌*◌, ◌/◌, ◌%◌, ◌^◌, ◌≤◌, ◌<◌, length, take}
use Rattle.model.specs.Bits.{run_of}
use Rattle.bits.specs.Splice.{low, Spliced}
use Rattle.bits.specs.declared.Cursor.{Cursor}

-- The low bits of a number as the first of 32 bits, the others 0.
abbrev pub leading : ℕ → ℕ → ℕ
leading width v = v % 2 ^ width * 2 ^ (32 - width)

-- The bits of its byte that stand before the cursor are the low ones of a number, and those are begun.
pub record Begun (out : List ℕ) (cursor : Cursor) : Type 0 where
  pub kept : ℕ
  pub is : cursor.begun ≡ leading (cursor.at % 8) kept
  pub run : take cursor.at (run_of out) ≡ take (8 * (cursor.at / 8)) (run_of out) ++ low (cursor.at % 8) kept

-- A field of so many bits has room.
pub record FieldRoom (width : ℕ) (out : List ℕ) (cursor : Cursor) : Type 0 where
  pub fits : cursor.at + width ≤ 8 * length out
  pub few : cursor.at < 2 ^ 62
  pub begun : Begun out cursor

-- Bits were put from one cursor to another.
pub record Put (bs before : List ℕ) (from : Cursor) (after : List ℕ) (to : Cursor) : Type 0 where
  pub spliced : Spliced before after from.at bs to.at
  pub begun : Begun after to

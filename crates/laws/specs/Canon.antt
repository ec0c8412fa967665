-- What a record reads as: the words that it is written as, under its sheet's number, and what follows them.
use Rattle.std.specs.Prelude.{◌≡◌, List, ◌++◌, ℕ}
use Rattle.model.specs.Record.{Record}
use Rattle.model.specs.Writing.{numbered, encode_r}

module _ {O : Type 0} (number : O → ℕ) where
  -- The sheet's number stands above the count.
  abbrev pub SameR : ℕ → List ℕ → Record O → List ℕ → Type 0
  SameR n us r vs = numbered n (encode_r number r) ++ vs ≡ us

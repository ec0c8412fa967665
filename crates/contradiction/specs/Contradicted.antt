-- What is answered of the entries of a record, against a table. Request 7.
use Rattle.std.specs.Prelude.{◌≡◌, Bool, List, ◌++◌, map, ℕ, length, drop}
use Rattle.model.specs.Fields.{pack}
use Rattle.model.specs.Facts.{Table}
use Rattle.model.specs.Consulted.{Consulted, any_contradicted}
use Rattle.model.specs.Writing.{entry_bits, entry_field}
use Rattle.laws.proofs.ReadForm.{Named}

-- Where `count` entries stand after the first word, whether the table contradicts one of them.
pub record Contradicted (P : Table) (words : List ℕ) (count : ℕ) (r : Bool) : Type 0 where
  pub says : (es : Consulted) (rest : List ℕ) → Named es → count ≡ length es → pack entry_bits (map entry_field es) ++ rest ≡ drop 1 words → r ≡ any_contradicted P es

-- Two tables byte by byte: whether their fields agree, and the byte that the fields of two bytes join to.
use Rattle.std.specs.Prelude.{◌≡◌, Bool, not, List, ℕ}
use Rattle.std.proofs.Math.Option.{none}
use Rattle.model.specs.Fields.{split, joined}
use Rattle.model.specs.Facts.{partial_facts, table_fields, first_fault}
use Rattle.model.specs.Join.{join_fields, clashes}
use Rattle.laws.specs.Lists.{Below}

-- No fact is Present in one and Absent in the other.
abbrev pub agree : List ℕ → List ℕ → Bool
agree ps qs = not (clashes (join_fields ps qs))

abbrev pub bytes_agree : ℕ → ℕ → Bool
bytes_agree a b = agree (split 2 4 a) (split 2 4 b)

abbrev pub join_byte : ℕ → ℕ → ℕ
join_byte a b = joined 2 4 (join_fields (split 2 4 a) (split 2 4 b))

-- Each field of a byte is 0, 1 or 2.
abbrev pub Clean : ℕ → Type 0
Clean b = Below 3 (split 2 4 b)

abbrev pub NoThree : List ℕ → Type 0
NoThree bs = first_fault partial_facts (table_fields bs) ≡ none

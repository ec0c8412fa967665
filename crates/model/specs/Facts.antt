-- Fact tables. Document 01, "What a call receives" and the causes 2 to 4 of "How a request is turned back".
use Rattle.std.specs.Prelude.{cond, List, [], ◌∷◌, ◌++◌, ℕ, zero, suc, ◌^◌, leb, length}
use Rattle.std.proofs.Math.Option.{Option, none, some}
use Rattle.model.specs.Fields.{split}

-- What a table says of a fact. Silent: the table ended before it, so that it was never entered (request 9).
pub data Presence : Type 0 where
  absent present unknown silent : Presence

-- A table gives each fact a reading.
abbrev pub Table : Type 0
Table = ℕ → Presence

-- Facts are 0..1023: ten bits.
abbrev pub fact_bits : ℕ
fact_bits = 10

abbrev pub fact_count : ℕ
fact_count = 2 ^ fact_bits

-- A table's fields: four 2-bit fields a byte, most significant first.
abbrev pub table_fields : List ℕ → List ℕ
table_fields [] = []
table_fields (b ∷ bs) = split 2 4 b ++ table_fields bs

-- 0 Absent, 1 Present, 2 Unknown.
abbrev pub presence : ℕ → Presence
presence zero = absent
presence (suc zero) = present
presence (suc (suc n)) = unknown

-- What the fields say of a fact. A fact is entered where the table has its byte; past the end the table is silent.
abbrev pub observed : List ℕ → Table
observed [] f = silent
observed (q ∷ qs) zero = presence q
observed (q ∷ qs) (suc f) = observed qs f

abbrev pub table_of : List ℕ → Table
table_of bs f = observed (table_fields bs) f

-- Silence read as Absent, never Unknown: what decisions and stages go by.
abbrev pub heard : Presence → Presence
heard absent = absent
heard present = present
heard unknown = unknown
heard silent = absent

-- A call takes a partial table, or a known one, which holds no Unknown.
pub data TableKind : Type 0 where
  partial_facts known_facts : TableKind

-- A field's fault: 3, or in a known table 4 for Unknown.
abbrev pub unknown_fault : TableKind → Option ℕ
unknown_fault partial_facts = none
unknown_fault known_facts = some 4

abbrev pub field_fault : TableKind → ℕ → Option ℕ
field_fault k zero = none
field_fault k (suc zero) = none
field_fault k (suc (suc zero)) = unknown_fault k
field_fault k (suc (suc (suc n))) = some 3

abbrev pub or_fault : Option ℕ → Option ℕ → Option ℕ
or_fault none later = later
or_fault (some n) later = some n

-- The first fault from fact 0 on.
abbrev pub first_fault : TableKind → List ℕ → Option ℕ
first_fault k [] = none
first_fault k (q ∷ qs) = or_fault (field_fault k q) (first_fault k qs)

-- A table is 0..256 bytes; 2 when it is longer, before its fields.
abbrev pub table_bytes : ℕ
table_bytes = 256

abbrev pub table_fault : TableKind → List ℕ → Option ℕ
table_fault k bs = cond (leb (length bs) table_bytes) (first_fault k (table_fields bs)) (some 2)

-- Two relays' tables joined. Request 2.
-- Order of the causes: 2 in either table, 3 in either, 14, then 11.
use Rattle.std.specs.Prelude.{Bool, false, cond, ◌&&◌, ◌||◌, List, [], ◌∷◌, ℕ, max, eqb, leb, length}
use Rattle.std.proofs.Math.Option.{Option, none, some}
use Rattle.model.specs.Fields.{packed}
use Rattle.model.specs.Facts.{partial_facts, table_fields, table_bytes, or_fault, first_fault}
use Rattle.model.specs.Calls.{Answer, refusal, wrote, unless_fault}

-- Two fields of one fact: Unknown (2) yields to the other, equal ones stay, and Present against Absent is a clash. A clash is written as 3, which no
-- field of an accepted table is, so that joining is one total function.
abbrev pub join_field : ℕ → ℕ → ℕ
join_field p q = cond (eqb p 2) q (cond (eqb q 2) p (cond (eqb p q) p 3))

-- Fact by fact, to the end of the longer table. Past its end a table reads Absent (0).
abbrev pub join_fields : List ℕ → List ℕ → List ℕ
join_fields [] [] = []
join_fields [] (q ∷ qs) = join_field 0 q ∷ join_fields [] qs
join_fields (p ∷ ps) [] = join_field p 0 ∷ join_fields ps []
join_fields (p ∷ ps) (q ∷ qs) = join_field p q ∷ join_fields ps qs

abbrev pub clashes : List ℕ → Bool
clashes [] = false
clashes (q ∷ qs) = eqb q 3 || clashes qs

-- The result has the longer length.
abbrev pub joined_bytes : List ℕ → List ℕ → List ℕ
joined_bytes one two = packed 2 4 (max (length one) (length two)) (join_fields (table_fields one) (table_fields two))

abbrev pub clash_fault : List ℕ → List ℕ → Option ℕ
clash_fault one two = cond (clashes (join_fields (table_fields one) (table_fields two))) (some 14) none

abbrev pub join_fault : List ℕ → List ℕ → Option ℕ
join_fault one two =
    cond (leb (length one) table_bytes && leb (length two) table_bytes)
    (or_fault (first_fault partial_facts (table_fields one)) (or_fault (first_fault partial_facts (table_fields two)) (clash_fault one two)))
    (some 2)

-- The call: two tables, and the room of the output in bytes.
abbrev pub join_tables : List ℕ → List ℕ → ℕ → Answer
join_tables one two room =
    unless_fault (join_fault one two)
    (cond (leb (length (joined_bytes one two)) room) (wrote (joined_bytes one two)) (refusal 11))

-- Three tables, grouped either way, with outputs of 256 bytes. A refused join hands on its refusal.
abbrev pub on_joined : Answer → (List ℕ → Answer) → Answer
on_joined (refusal n) k = refusal n
on_joined (wrote bs) k = k bs

abbrev pub join_left : List ℕ → List ℕ → List ℕ → Answer
join_left a b c = on_joined (join_tables a b table_bytes) (λ t. join_tables t c table_bytes)

abbrev pub join_right : List ℕ → List ℕ → List ℕ → Answer
join_right a b c = on_joined (join_tables b c table_bytes) (λ t. join_tables a t table_bytes)

-- Batches worked through, by computation, through words. Request 10.
use Rattle.std.specs.Prelude.{◌≡◌, refl, Bool, true, ◌&&◌, List, [], ◌∷◌, ◌++◌, ℕ, ◌+◌, ◌*◌, ◌^◌, eqb, replicate}
use Rattle.std.proofs.Math.Option.{Option, none}
use Rattle.model.specs.Facts.{table_of}
use Rattle.model.specs.Outcome.{product_sets}
use Rattle.model.specs.Reading.{read_sheet}
use Rattle.model.specs.Levels.{OutcomeTable, meet_of, join_of, outcome_count, accepts}
use Rattle.model.specs.Batch.{Batch, visited, evaluate_batch, output_after, replies_after, batch_number}
use Rattle.model.specs.Worked.{same_list}
use Rattle.model.specs.WorkedLevels.{C3, xor}

-- ---- the register, the sheets handed over and requests
abbrev pub register : List ℕ
register =
    0x01000007 ∷ 0 ∷ 0x02000009 ∷ 0 ∷ 0x03000003 ∷ 0 ∷ 0x04000004 ∷ 0 ∷ 0x05000005 ∷ 0 ∷ 0x06000006 ∷ 0
    -- 7 is withdrawn from group 7, and effective for group 8 from day 500
    ∷ 0x07800007 ∷ 0 ∷ 0x08000007 ∷ 0x1F4 ∷ []

-- D; an Any of two grants, the first on an Any of conditions; a second sheet 7; an All that denies at its second arm; a sheet of no words; one with a word after its tree.
abbrev pub sheets : List ℕ
sheets =
    0x00070003 ∷ 0x88000003 ∷ 0 ∷ 0x20000005
    ∷ 0x00090009 ∷ 0xA0000002 ∷ 0x80000001 ∷ 0 ∷ 0x50000002 ∷ 0x20000000 ∷ 0x20000001 ∷ 0x80000002 ∷ 0 ∷ 0x20000002
    ∷ 0x00070001 ∷ 0x60000001
    ∷ 0x00030004 ∷ 0x90000003 ∷ 0x60000001 ∷ 0x70000000 ∷ 0x60000002
    ∷ 0x00040000
    ∷ 0x00050002 ∷ 0x60000001 ∷ 0x60000001 ∷ []

-- A group, a day, a table's length and its first word.
abbrev pub asks : ℕ → ℕ → ℕ → ℕ → List ℕ
asks group day bytes first = (group * 2 ^ 24 + bytes) ∷ day ∷ first ∷ replicate 63 0

abbrev pub a : List ℕ
a = asks 1 10 2 0x00100000

abbrev pub b : List ℕ
b = asks 2 10 1 0x10000000

abbrev pub c : List ℕ
c = asks 3 10 0 0

-- ---- rows
-- The outcome table, the register, the sheets, the requests, the allowance; the places and the room, which hold 5 and 7 before; then what is returned,
-- and the replies and the output afterwards.
pub data Row : Type 0 where
  row_by : Option OutcomeTable → List ℕ → List ℕ → List ℕ → ℕ → ℕ → ℕ → ℕ → List ℕ → List ℕ → Row

abbrev pub row : List ℕ → ℕ → ℕ → ℕ → ℕ → List ℕ → List ℕ → Row
row = row_by none register sheets

abbrev pub is_run : Batch → ℕ → ℕ → ℕ → List ℕ → List ℕ → Bool
is_run r places room returned told out =
    eqb (batch_number r) returned && (same_list (replies_after r (replicate places 5)) told && same_list (output_after r (replicate room 7)) out)

abbrev pub holds : Row → Bool
holds (row_by g es hs qs allowance places room returned told out) = is_run (evaluate_batch g es hs qs allowance places room) places room returned told out

abbrev pub all_hold : List Row → Bool
all_hold [] = true
all_hold (r ∷ rs) = holds r && all_hold rs

-- The records of a, b and c.
abbrev pub of_a : List ℕ
of_a = 0xE0007001 ∷ 0x40050000 ∷ 0xC0000003 ∷ 1 ∷ 0x00050000 ∷ []

abbrev pub of_b : List ℕ
of_b = 0xE0009003 ∷ 0x00004001 ∷ 0x00020000 ∷ 0xC0000001 ∷ 1 ∷ 0x00010000 ∷ []

abbrev pub of_c : List ℕ
of_c = 0xE0003000 ∷ 0xD0000000 ∷ 0 ∷ 0 ∷ []

abbrev pub runs : List Row
runs =
    row a 65535 2 8 5 (0x20005 ∷ 5 ∷ []) (of_a ++ replicate 3 7)
    -- an exact remainder is enough
    ∷ row a 2 1 8 5 (0x20005 ∷ []) (of_a ++ replicate 3 7)
    ∷ row a 1 1 8 0 (0x1200000000 ∷ []) (replicate 8 7)
    -- after an unaffordable request the later ones are tried
    ∷ row (a ++ (b ++ c)) 5 3 16 9 (0x20005 ∷ 0x1200000000 ∷ 0x30004 ∷ []) (of_a ++ (of_c ++ replicate 7 7))
    ∷ row (a ++ (b ++ c)) 10 3 20 11 (0x20005 ∷ 0x70006 ∷ 0x1200000000 ∷ []) (of_a ++ (of_b ++ replicate 9 7))
    ∷ row (a ++ (b ++ c)) 12 4 20 15 (0x20005 ∷ 0x70006 ∷ 0x30004 ∷ 5 ∷ []) (of_a ++ (of_b ++ (of_c ++ replicate 5 7)))
    -- a record that doesn't fit in what is left, and a shorter one that does; the refused one takes no nodes
    ∷ row (a ++ (b ++ c)) 65535 3 9 9 (0x20005 ∷ 0xB00000000 ∷ 0x30004 ∷ []) (of_a ++ of_c)
    ∷ row (a ++ (b ++ c)) 9 3 9 9 (0x20005 ∷ 0xB00000000 ∷ 0x30004 ∷ []) (of_a ++ of_c)
    -- the inner Any ends at its first arm
    ∷ row (asks 2 10 1 0x40000000) 6 1 5 5 (0x60005 ∷ []) (0xE0009002 ∷ 0x40000002 ∷ 0xC0000001 ∷ 1 ∷ 0 ∷ [])
    -- none: withdrawn, not yet effective, not handed over, no entry; before the table's faults
    ∷ row (asks 7 10 2 0xC0000000 ++ (asks 8 499 2 0 ++ (asks 6 10 0 0 ++ (asks 9 10 0 0 ++ asks 6 10 0xFFFFFF 0xFF000000)))) 65535 5 4 0 (replicate 5 0) (replicate 4 7)
    ∷ row (asks 8 500 2 0x00100000) 65535 1 5 5 (0x20005 ∷ []) of_a
    -- a request's own faults: the sheet's length before the table's, the table before the words; bytes past the length are ignored
    ∷ row (asks 4 10 257 0xFF000000 ++ (asks 5 10 0 0 ++ (asks 5 10 257 0 ++ (asks 1 10 257 0xFF000000 ++ (asks 1 10 256 0x00100000
    ++ (asks 1 10 1 0x80000000 ++ (asks 1 10 1 0x30000000 ++ asks 1 10 1 0x00FF0000))))))) 65535 8 16 11
    (0x100000000 ∷ 0xA00000000 ∷ 0x200000000 ∷ 0x200000000 ∷ 0x20005 ∷ 0x400000000 ∷ 0x300000000 ∷ 0x20006 ∷ [])
    (of_a ++ (0xE0007001 ∷ 0xC0050000 ∷ 0xDC000003 ∷ 0 ∷ 1 ∷ 0x00050000 ∷ replicate 5 7))
    ∷ row (asks 4 10 0xFFFFFF 0 ++ asks 1 10 0xFFFFFF 0) 65535 2 0 0 (0x100000000 ∷ 0x200000000 ∷ []) []
    -- 18 before 11, and after 10
    ∷ row (a ++ asks 5 10 0 0) 0 2 0 0 (0x1200000000 ∷ 0xA00000000 ∷ []) []
    -- no requests
    ∷ row [] 5 0 2 0 [] (7 ∷ 7 ∷ [])
    -- 64 requests: all are of no group
    ∷ row (replicate 4224 0) 0 64 0 0 (replicate 64 0) []
    ∷ []

pub runs_hold : all_hold runs ≡ true
unfolding outcome_count meet_of join_of
runs_hold = refl

-- ---- what turns the batch back, with nothing decided, and in which order
abbrev back : Option OutcomeTable → List ℕ → List ℕ → List ℕ → ℕ → ℕ → ℕ → Row
back g es hs qs allowance places number = row_by g es hs qs allowance places 5 (number * 2 ^ 32) (replicate places 5) (replicate 5 7)

-- Faulty: a register of one word, a sheet list that ends early; requests of 65 words, and 65 of them.
abbrev odd : List ℕ
odd = 1 ∷ []

abbrev early : List ℕ
early = 0x00070003 ∷ 0x88000003 ∷ 0 ∷ []

abbrev turned : List Row
turned =
    back none register sheets (replicate 65 0) 5 1 1
    ∷ back none register sheets (replicate 4290 0) 5 65 1
    ∷ back none odd early (replicate 4290 0) 5 0 1
    ∷ back none odd early a 65536 0 1
    ∷ back none register sheets [] 65536 0 1
    ∷ back none odd early a 5 0 15
    ∷ back none odd sheets [] 5 0 15
    ∷ back none register early a 5 0 6
    ∷ back none register early [] 5 0 6
    ∷ back none register sheets a 5 0 11
    ∷ back none register sheets (a ++ b) 5 1 11
    -- one outcome table for the whole batch, before all else
    ∷ back xor odd early (replicate 65 0) 65536 0 21
    ∷ back xor register sheets [] 5 0 21
    ∷ back C3 odd early (replicate 65 0) 65536 0 1
    ∷ []

pub turned_hold : all_hold turned ≡ true
unfolding outcome_count meet_of join_of accepts
turned_hold = refl

-- By a table of three levels: the join of 1 and 2 is 2, and 3 is no level (8); without a table it is 3.
abbrev joins : List ℕ
joins = 0x00090003 ∷ 0xA0000002 ∷ 0x60000001 ∷ 0x60000002 ∷ 0x00070003 ∷ 0x88000003 ∷ 0 ∷ 0x20000005 ∷ []

abbrev levels : List Row
levels =
    row_by C3 register joins (a ++ b) 3 2 4 3 (0x800000000 ∷ 0x30003 ∷ []) (0xE0009000 ∷ 0xC0000002 ∷ 0 ∷ 7 ∷ [])
    ∷ row_by C3 register joins (a ++ b) 2 2 4 0 (0x800000000 ∷ 0x1200000000 ∷ []) (replicate 4 7)
    ∷ row_by none register joins (a ++ b) 3 2 4 3 (0xB00000000 ∷ 0x30003 ∷ []) (0xE0009000 ∷ 0xC0000003 ∷ 0 ∷ 7 ∷ [])
    ∷ []

pub levels_hold : all_hold levels ≡ true
unfolding outcome_count meet_of join_of accepts
levels_hold = refl

-- ---- which nodes count: a sheet, a table and the count. In the table 40 fact 0 is Present, in 10 fact 1 is.
pub data Count : Type 0 where
  count : List ℕ → List ℕ → ℕ → Count

abbrev counts_hold : List Count → Bool
counts_hold [] = true
counts_hold (count sheet facts n ∷ cs) = eqb (visited product_sets (read_sheet product_sets.value sheet) (table_of facts)) n && counts_hold cs

-- A Grant of nothing but its condition.
abbrev on : List ℕ → List ℕ
on condition = 0x80000001 ∷ 0 ∷ condition

abbrev zero_and_one : List ℕ
zero_and_one = 0x20000000 ∷ 0x20000001 ∷ []

abbrev counted : List Count
counted =
    count (0x60000001 ∷ []) [] 1
    ∷ count (0x70000000 ∷ []) [] 1
    -- a Grant's condition counts besides the Grant, whatever it says
    ∷ count (on (0x00000000 ∷ [])) [] 2
    ∷ count (on (0x10000000 ∷ [])) [] 2
    ∷ count (on (0x20000000 ∷ [])) [] 2
    ∷ count (on (0x20000000 ∷ [])) (0x40 ∷ []) 2
    -- its words for a label and obligations are no nodes
    ∷ count (0x80100001 ∷ 0x80018001 ∷ 0x01000000 ∷ 0x20000000 ∷ []) [] 2
    -- Not counts besides its arm; empty lists count 1
    ∷ count (on (0x30000000 ∷ 0x30000000 ∷ 0x20000000 ∷ [])) [] 4
    ∷ count (on (0x40000000 ∷ [])) [] 2
    ∷ count (on (0x50000000 ∷ [])) [] 2
    ∷ count (0x90000000 ∷ []) [] 1
    ∷ count (0xA0000000 ∷ []) [] 1
    -- a condition All up to and including its first false arm, Any up to and including its first true one
    ∷ count (on (0x40000002 ∷ zero_and_one)) [] 3
    ∷ count (on (0x40000002 ∷ zero_and_one)) (0x40 ∷ []) 4
    ∷ count (on (0x50000002 ∷ zero_and_one)) [] 4
    ∷ count (on (0x50000002 ∷ zero_and_one)) (0x40 ∷ []) 3
    -- nested: the outer list goes on after an inner one that ended early
    ∷ count (on (0x50000002 ∷ 0x40000002 ∷ (zero_and_one ++ 0x20000001 ∷ []))) [] 5
    -- a policy All up to and including its deny; Any every arm
    ∷ count (0x90000003 ∷ 0x60000001 ∷ 0x70000000 ∷ 0x60000001 ∷ []) [] 3
    ∷ count (0x90000003 ∷ 0x60000001 ∷ 0x60000001 ∷ 0x60000001 ∷ []) [] 4
    ∷ count (0xA0000003 ∷ 0x60000001 ∷ 0x70000000 ∷ 0x60000001 ∷ []) [] 4
    -- OrElse's fallback after a deny alone
    ∷ count (0xB0000000 ∷ 0x60000001 ∷ 0x60000002 ∷ []) [] 2
    ∷ count (0xB0000000 ∷ 0x70000000 ∷ 0x60000002 ∷ []) [] 3
    ∷ count (0xB0000000 ∷ (on (0x20000000 ∷ []) ++ 0x60000002 ∷ [])) (0x40 ∷ []) 3
    ∷ count (0xB0000000 ∷ (on (0x20000000 ∷ []) ++ 0x60000002 ∷ [])) [] 4
    ∷ []

pub counted_hold : counts_hold counted ≡ true
counted_hold = refl

-- Cases of request 6, by computation, through words and bytes: records that carry the number of their sheet.
use Rattle.std.specs.Prelude.{◌≡◌, refl, true, List, [], ◌∷◌, ◌++◌, ℕ}
use Rattle.model.specs.Outcome.{product_sets}
use Rattle.model.specs.Calls.{afterwards, evaluate, complete_residual}
use Rattle.model.specs.Required.{required_residual_facts, is_permit_constant}
use Rattle.model.specs.Worked.{Row, row_under, row, evaluates, completes, reduces, narrows, reduces_in_order, narrows_in_order, refuses, writes, all_hold}

-- Sheet D, and what is left of it under number 7 where fact 5 is Unknown.
abbrev sheet_d : List ℕ
sheet_d = 0x88000003 ∷ 0x0 ∷ 0x20000005 ∷ []

abbrev pending_d : List ℕ
pending_d = 0xF0007000 ∷ sheet_d

-- What is decided of it under number 7 where fact 5 is Present.
abbrev resolved_d : List ℕ
resolved_d = 0xE0007001 ∷ 0x40050000 ∷ 0xC0000003 ∷ 0x1 ∷ 0x00050000 ∷ []

abbrev pub numbers : List Row
numbers =
    -- evaluation and reduction write the number, of 16 bits, that they are given
    row_under 7 evaluates 16384 [] (0x60000001 ∷ []) (writes (0xE0007000 ∷ 0xC0000001 ∷ 0x0 ∷ []))
    ∷ row_under 65535 evaluates 16384 [] (0x60000001 ∷ []) (writes (0xEFFFF000 ∷ 0xC0000001 ∷ 0x0 ∷ []))
    ∷ row_under 7 evaluates 16384 (0x0 ∷ 0x10 ∷ []) sheet_d (writes resolved_d)
    ∷ row_under 7 reduces 16384 (0x0 ∷ 0x20 ∷ []) sheet_d (writes pending_d)
    ∷ row_under 65535 reduces_in_order 16384 (0x0 ∷ 0x20 ∷ []) sheet_d (writes (0xFFFFF000 ∷ sheet_d))
    -- narrowing and completion keep it
    ∷ row_under 7 narrows 100 (0x0 ∷ 0x10 ∷ []) pending_d (writes resolved_d)
    ∷ row_under 7 narrows 100 (0x0 ∷ 0x20 ∷ []) pending_d (writes pending_d)
    ∷ row_under 7 narrows_in_order 100 (0x0 ∷ 0x10 ∷ []) pending_d (writes resolved_d)
    ∷ row_under 7 completes 100 [] pending_d (writes (0xE0007001 ∷ 0xC0050000 ∷ 0xDC000003 ∷ 0x0 ∷ 0x1 ∷ 0x00050000 ∷ []))
    ∷ row_under 65535 narrows 16 [] (0xFFFFF000 ∷ 0x60000001 ∷ []) (writes (0xEFFFF000 ∷ 0xC0000001 ∷ 0x0 ∷ []))
    -- a Resolved record comes back equal
    ∷ row_under 7 narrows 16 [] resolved_d (writes resolved_d)
    ∷ row_under 7 completes 16 [] resolved_d (writes resolved_d)
    -- the count is the lead's last twelve bits: the words end before entry 4,095
    ∷ row_under 65535 narrows 16 [] (0xFFFFFFFF ∷ 0x0 ∷ []) (refuses 6)
    ∷ []

pub numbers_hold : all_hold numbers ≡ true
numbers_hold = refl

abbrev pub other_numbers : List Row
other_numbers =
    -- another number gives 16, before 11; 0 does not stand for any
    row_under 8 completes 100 [] pending_d (refuses 16)
    ∷ row_under 8 completes 0 [] pending_d (refuses 16)
    ∷ row completes 100 [] pending_d (refuses 16)
    ∷ row completes 0 (0x0 ∷ 0x10 ∷ []) pending_d (refuses 16)
    ∷ row_under 8 narrows 100 [] pending_d (refuses 16)
    ∷ row narrows 0 [] pending_d (refuses 16)
    ∷ row narrows_in_order 0 [] pending_d (refuses 16)
    ∷ row_under 7 narrows 100 [] (0xF0000000 ∷ sheet_d) (refuses 16)
    ∷ row_under 7 completes 100 [] (0xF0000000 ∷ sheet_d) (refuses 16)
    -- of a Resolved record too
    ∷ row_under 8 narrows 0 [] resolved_d (refuses 16)
    ∷ row narrows_in_order 100 [] resolved_d (refuses 16)
    ∷ row_under 8 completes 0 [] resolved_d (refuses 16)
    -- every earlier cause comes first, also where the number is another
    ∷ row completes 0 [] (pending_d ++ 0x0 ∷ []) (refuses 10)
    ∷ row narrows 0 [] (pending_d ++ 0x0 ∷ []) (refuses 10)
    ∷ row narrows 0 [] (0xF0007000 ∷ []) (refuses 6)
    ∷ row completes 0 (0x0 ∷ 0x30 ∷ []) pending_d (refuses 3)
    -- 11 comes after it
    ∷ row_under 7 narrows 4 [] resolved_d (refuses 11)
    ∷ row_under 7 completes 5 [] pending_d (refuses 11)
    -- a number over 65,535 is that of no record
    ∷ row_under 65536 evaluates 16384 [] (0x60000001 ∷ []) (refuses 16)
    ∷ row_under 65536 evaluates 0 [] (0x60000001 ∷ []) (refuses 16)
    ∷ row_under 65536 evaluates 0 [] (0x60000001 ∷ 0x0 ∷ []) (refuses 10)
    ∷ row_under 65536 reduces 0 [] (0x60000001 ∷ []) (refuses 16)
    ∷ row_under 65536 reduces 0 [] (0x60000001 ∷ 0x0 ∷ []) (refuses 10)
    ∷ row_under 4294967295 reduces_in_order 100 [] (0x60000001 ∷ []) (refuses 16)
    ∷ row_under 65543 narrows 100 [] pending_d (refuses 16)
    ∷ row_under 65543 narrows_in_order 0 [] pending_d (refuses 16)
    ∷ row_under 65543 completes 0 [] pending_d (refuses 16)
    ∷ row_under 65536 completes 100 [] (0xF0000000 ∷ sheet_d) (refuses 16)
    ∷ []

pub other_numbers_hold : all_hold other_numbers ≡ true
other_numbers_hold = refl

-- A refused call changes no word.
pub other_number_kept : afterwards (complete_residual product_sets 8 pending_d [] 6) (1 ∷ 2 ∷ 3 ∷ 4 ∷ 5 ∷ 6 ∷ []) ≡ 1 ∷ 2 ∷ 3 ∷ 4 ∷ 5 ∷ 6 ∷ []
other_number_kept = refl

pub no_number_kept : afterwards (evaluate product_sets 65536 (0x60000001 ∷ []) [] 3) (1 ∷ 2 ∷ 3 ∷ []) ≡ 1 ∷ 2 ∷ 3 ∷ []
no_number_kept = refl

-- Required facts and the questions accept records of any number.
pub required_any_number : (required_residual_facts product_sets (0xFFFFF000 ∷ sheet_d)).count ≡ 1
required_any_number = refl

pub permit_any_number : (is_permit_constant product_sets (0xE0007000 ∷ 0xC0000001 ∷ 0x0 ∷ [])).yes ≡ true
permit_any_number = refl

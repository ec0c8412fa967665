-- Cases of request 7, by computation, through words and bytes: tables that contradict an entry of the record.
use Rattle.std.specs.Prelude.{◌≡◌, refl, true, List, [], ◌∷◌, ℕ}
use Rattle.model.specs.Outcome.{product_sets}
use Rattle.model.specs.Partial.{permits_first}
use Rattle.model.specs.Calls.{afterwards, narrow_residual}
use Rattle.model.specs.Worked.{Row, row_under, row, completes, reduces, narrows, narrows_in_order, refuses, writes, all_hold}

-- Fact 5 was Present, fact 6 is asked; and what is decided where 6 is not there: by the entries of both.
abbrev asked6 : List ℕ
asked6 = 0xF0007001 ∷ 0x40050000 ∷ 0x80000001 ∷ 0x0 ∷ 0x20000006 ∷ []

abbrev denied6 : ℕ → List ℕ
denied6 entries = 0xE0007002 ∷ entries ∷ 0xD4000001 ∷ 0x0 ∷ 0x1 ∷ 0x60000 ∷ []

-- Decided where fact 5 was Present.
abbrev permitted5 : List ℕ
permitted5 = 0xE0007001 ∷ 0x40050000 ∷ 0xC0000003 ∷ 0x1 ∷ 0x50000 ∷ []

abbrev pub contradictions : List Row
contradictions =
    -- Absent for a fact that was Present; Present, Unknown and a table that ended before the fact contradict nothing
    row_under 7 narrows 100 (0x0 ∷ 0x0 ∷ []) asked6 (refuses 17)
    ∷ row_under 7 narrows 100 (0x0 ∷ 0x10 ∷ []) asked6 (writes (denied6 0x40050006))
    ∷ row_under 7 narrows 100 (0x0 ∷ 0x20 ∷ []) asked6 (writes (denied6 0x40050006))
    ∷ row_under 7 narrows 100 (0x0 ∷ []) asked6 (writes (denied6 0x4005C006))
    ∷ row_under 7 narrows 100 [] asked6 (writes (denied6 0x4005C006))
    ∷ row_under 7 narrows 100 (0x0 ∷ 0x18 ∷ []) asked6 (writes asked6)
    -- the same in sheet order
    ∷ row_under 7 narrows_in_order 100 (0x0 ∷ 0x0 ∷ []) asked6 (refuses 17)
    ∷ row_under 7 narrows_in_order 100 (0x0 ∷ 0x10 ∷ []) asked6 (writes (denied6 0x40050006))
    -- Present for a fact that was Absent
    ∷ row narrows 100 (0x0 ∷ 0x10 ∷ []) (0xF0000001 ∷ 0x50000 ∷ 0x60000001 ∷ []) (refuses 17)
    ∷ row narrows_in_order 100 (0x0 ∷ 0x10 ∷ []) (0xF0000001 ∷ 0x50000 ∷ 0x60000001 ∷ []) (refuses 17)
    ∷ row narrows 100 (0x0 ∷ 0x20 ∷ []) (0xF0000001 ∷ 0x50000 ∷ 0x60000001 ∷ []) (writes (0xE0000001 ∷ 0x50000 ∷ 0xC0000001 ∷ 0x0 ∷ []))
    -- a Resolved record too, which otherwise comes back equal
    ∷ row_under 7 narrows 100 (0x0 ∷ 0x0 ∷ []) permitted5 (refuses 17)
    ∷ row_under 7 narrows_in_order 100 (0x0 ∷ 0x0 ∷ []) permitted5 (refuses 17)
    ∷ row_under 7 narrows 100 (0x0 ∷ 0x10 ∷ []) permitted5 (writes permitted5)
    ∷ row_under 7 narrows 100 (0x0 ∷ 0x20 ∷ []) permitted5 (writes permitted5)
    ∷ row_under 7 narrows 100 (0x0 ∷ []) permitted5 (writes permitted5)
    -- a completion is not turned back
    ∷ row_under 7 completes 100 (0x0 ∷ 0x0 ∷ []) asked6 (writes (denied6 0x40050006))
    ∷ row_under 7 completes 100 (0x0 ∷ 0x0 ∷ []) permitted5 (writes permitted5)
    -- an entry of Unknown, and one of silence
    ∷ row narrows 100 (0x0 ∷ 0x10 ∷ []) (0xF0000001 ∷ 0x80050000 ∷ 0x80000001 ∷ 0x0 ∷ 0x20000006 ∷ []) (writes (0xE0000002 ∷ 0x80050006 ∷ 0xD4000001 ∷ 0x0 ∷ 0x1 ∷ 0x60000 ∷ []))
    ∷ row reduces 100 (0x80 ∷ []) (0xA0000002 ∷ 0x80000001 ∷ 0x0 ∷ 0x20000000 ∷ 0x80000002 ∷ 0x0 ∷ 0x20000005 ∷ []) (writes (0xF0000001 ∷ 0xC0050000 ∷ 0xA0000002 ∷ 0xD4000002 ∷ 0x0 ∷ 0x1 ∷ 0x50000 ∷ 0x80000001 ∷ 0x0 ∷ 0x20000000 ∷ []))
    ∷ row narrows 100 (0x40 ∷ 0x10 ∷ []) (0xF0000001 ∷ 0xC0050000 ∷ 0xA0000002 ∷ 0xD4000002 ∷ 0x0 ∷ 0x1 ∷ 0x50000 ∷ 0x80000001 ∷ 0x0 ∷ 0x20000000 ∷ []) (writes (0xE0000002 ∷ 0xC0054000 ∷ 0xC0000001 ∷ 0x1 ∷ 0x0 ∷ []))
    -- every entry counts: a repeated one, here as Present and as Absent, and the last of an odd list
    ∷ row narrows 100 (0x0 ∷ 0x10 ∷ []) (0xF0000002 ∷ 0x40050005 ∷ 0x80000001 ∷ 0x0 ∷ 0x20000006 ∷ []) (refuses 17)
    ∷ row narrows 100 (0x0 ∷ 0x0 ∷ []) (0xF0000002 ∷ 0x40050005 ∷ 0x80000001 ∷ 0x0 ∷ 0x20000006 ∷ []) (refuses 17)
    ∷ row narrows 100 (0x0 ∷ 0x20 ∷ []) (0xF0000002 ∷ 0x40050005 ∷ 0x80000001 ∷ 0x0 ∷ 0x20000006 ∷ []) (writes (0xE0000002 ∷ 0x40050006 ∷ 0xD4000001 ∷ 0x0 ∷ 0x1 ∷ 0x60000 ∷ []))
    ∷ row narrows 100 (0x0 ∷ 0x19 ∷ 0x40 ∷ []) (0xF0000003 ∷ 0x40054007 ∷ 0x80000 ∷ 0x80000001 ∷ 0x0 ∷ 0x20000006 ∷ []) (refuses 17)
    ∷ row narrows 100 (0x0 ∷ 0x19 ∷ 0x0 ∷ []) (0xF0000003 ∷ 0x40054007 ∷ 0x80000 ∷ 0x80000001 ∷ 0x0 ∷ 0x20000006 ∷ []) (writes (0xF0000003 ∷ 0x40054007 ∷ 0x80000 ∷ 0x80000001 ∷ 0x0 ∷ 0x20000006 ∷ []))
    -- every other cause but 11 comes first
    ∷ row_under 8 narrows 100 (0x0 ∷ 0x0 ∷ []) asked6 (refuses 16)
    ∷ row_under 7 narrows 2 (0x0 ∷ 0x0 ∷ []) asked6 (refuses 17)
    ∷ row_under 7 narrows 2 (0x0 ∷ 0x0 ∷ []) permitted5 (refuses 17)
    ∷ row_under 7 narrows_in_order 2 (0x0 ∷ 0x0 ∷ []) permitted5 (refuses 17)
    ∷ row_under 7 narrows 2 (0x0 ∷ 0x10 ∷ []) asked6 (refuses 11)
    ∷ row_under 7 narrows 100 (0x0 ∷ 0x3 ∷ []) asked6 (refuses 3)
    ∷ row_under 7 narrows 100 (0x0 ∷ 0x0 ∷ []) (0xF0007001 ∷ 0x40050000 ∷ 0x60000001 ∷ 0x0 ∷ []) (refuses 10)
    ∷ []

pub contradictions_hold : all_hold contradictions ≡ true
contradictions_hold = refl

-- A refused call changes no word.
pub contradicted_kept : afterwards (narrow_residual product_sets permits_first 7 asked6 (0x0 ∷ 0x0 ∷ []) 6) (1 ∷ 2 ∷ 3 ∷ 4 ∷ 5 ∷ 6 ∷ []) ≡ 1 ∷ 2 ∷ 3 ∷ 4 ∷ 5 ∷ 6 ∷ []
contradicted_kept = refl

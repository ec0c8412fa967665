-- Cases of request 3, by computation, through words and bytes: obligations that repeat.
use Rattle.std.specs.Prelude.{◌≡◌, refl, true, List, [], ◌∷◌, ◌++◌, ℕ, replicate}
use Rattle.model.specs.Worked.{Row, row, evaluates, completes, reduces, narrows, reduces_in_order, narrows_in_order, refuses, writes, all_hold}

-- So many words of obligation 5, four times each.
abbrev fives : ℕ → List ℕ
fives n = replicate n 0x05050505

-- A node 12 that holds obligation 5 127 times.
abbrev full_trace : List ℕ
full_trace = 0xC7F00001 ∷ 0x0 ∷ (fives 31 ++ 0x05050500 ∷ [])

-- An Any of it and one obligation more: 128.
abbrev over : List ℕ
over = 0xA0000002 ∷ (full_trace ++ 0xC0100001 ∷ 0x0 ∷ 0x06000000 ∷ [])

-- Obligations 0 to 63, and those of them that aren't 5.
abbrev each : List ℕ
each = 0x00010203 ∷ 0x04050607 ∷ 0x08090A0B ∷ 0x0C0D0E0F ∷ 0x10111213 ∷ 0x14151617 ∷ 0x18191A1B ∷ 0x1C1D1E1F ∷ 0x20212223 ∷ 0x24252627 ∷ 0x28292A2B ∷ 0x2C2D2E2F ∷ 0x30313233 ∷ 0x34353637 ∷ 0x38393A3B ∷ 0x3C3D3E3F ∷ []

abbrev others : List ℕ
others = 0x00010203 ∷ 0x04060708 ∷ 0x090A0B0C ∷ 0x0D0E0F10 ∷ 0x11121314 ∷ 0x15161718 ∷ 0x191A1B1C ∷ 0x1D1E1F20 ∷ 0x21222324 ∷ 0x25262728 ∷ 0x292A2B2C ∷ 0x2D2E2F30 ∷ 0x31323334 ∷ 0x35363738 ∷ 0x393A3B3C ∷ 0x3D3E3F00 ∷ []

-- An Any of full_trace and each obligation once: 190.
abbrev far_over : List ℕ
far_over = 0xA0000002 ∷ (full_trace ++ 0xC4000001 ∷ 0x0 ∷ each)

-- A grant that stays pending where fact 0 is Unknown.
abbrev open0 : List ℕ
open0 = 0x80000001 ∷ 0x0 ∷ 0x20000000 ∷ []

abbrev pub repeated : List Row
repeated =
    -- a list is kept as it stands
    row evaluates 100 [] (0x80200001 ∷ 0x0 ∷ 0x07070000 ∷ 0x0 ∷ []) (writes (0xE0000000 ∷ 0xC0200001 ∷ 0x0 ∷ 0x07070000 ∷ []))
    -- a join appends one by one, against what is held by then
    ∷ row evaluates 100 [] (0xA0000002 ∷ 0x80100001 ∷ 0x0 ∷ 0x05000000 ∷ 0x0 ∷ 0x80300001 ∷ 0x0 ∷ 0x06060500 ∷ 0x0 ∷ []) (writes (0xE0000000 ∷ 0xC0200001 ∷ 0x0 ∷ 0x05060000 ∷ []))
    ∷ row evaluates 100 [] (0xA0000002 ∷ 0x80300001 ∷ 0x0 ∷ 0x05050500 ∷ 0x0 ∷ 0x80400002 ∷ 0x0 ∷ 0x05060607 ∷ 0x0 ∷ []) (writes (0xE0000000 ∷ 0xC0500003 ∷ 0x0 ∷ 0x05050506 ∷ 0x07000000 ∷ []))
    ∷ row evaluates 100 [] (0xA0000002 ∷ 0x60000001 ∷ 0x80200001 ∷ 0x0 ∷ 0x06060000 ∷ 0x0 ∷ []) (writes (0xE0000000 ∷ 0xC0100001 ∷ 0x0 ∷ 0x06000000 ∷ []))
    ∷ row evaluates 100 [] (0xA0000002 ∷ 0x80200001 ∷ 0x0 ∷ 0x06060000 ∷ 0x0 ∷ 0x60000001 ∷ []) (writes (0xE0000000 ∷ 0xC0200001 ∷ 0x0 ∷ 0x06060000 ∷ []))
    -- a meet keeps the list of the permit that it keeps
    ∷ row evaluates 100 [] (0x90000002 ∷ 0x80200001 ∷ 0x0 ∷ 0x07070000 ∷ 0x0 ∷ 0x60000003 ∷ []) (writes (0xE0000000 ∷ 0xC0200001 ∷ 0x0 ∷ 0x07070000 ∷ []))
    -- what is kept in a residual, in either order
    ∷ row reduces 100 (0x80 ∷ []) (0xA0000003 ∷ 0x80200001 ∷ 0x0 ∷ 0x05050000 ∷ 0x0 ∷ 0x80300001 ∷ 0x0 ∷ 0x06060500 ∷ 0x0 ∷ open0) (writes (0xF0000000 ∷ 0xA0000003 ∷ 0xC0200001 ∷ 0x0 ∷ 0x05050000 ∷ 0xC0300001 ∷ 0x0 ∷ 0x06060500 ∷ open0))
    ∷ row reduces_in_order 100 (0x80 ∷ []) (0xA0000002 ∷ (open0 ++ 0x80200001 ∷ 0x0 ∷ 0x05050000 ∷ 0x0 ∷ [])) (writes (0xF0000000 ∷ 0xA0000002 ∷ (open0 ++ 0xC0200001 ∷ 0x0 ∷ 0x05050000 ∷ [])))
    ∷ row reduces_in_order 100 [] (0xA0000002 ∷ 0x80200001 ∷ 0x0 ∷ 0x05050000 ∷ 0x0 ∷ 0x80300001 ∷ 0x0 ∷ 0x06060500 ∷ 0x0 ∷ []) (writes (0xE0000000 ∷ 0xC0300001 ∷ 0x0 ∷ 0x05050600 ∷ []))
    -- the most that comes of a sheet: 64 times 5, and then the others
    ∷ row evaluates 100 [] (0xA0000002 ∷ 0x84000001 ∷ 0x0 ∷ (fives 16 ++ 0x0 ∷ 0x84000001 ∷ 0x0 ∷ (each ++ 0x0 ∷ []))) (writes (0xE0000000 ∷ 0xC7F00001 ∷ 0x0 ∷ (fives 16 ++ others)))
    -- a node 12 holds what its seven bits can say, a Grant 64
    ∷ row completes 100 [] (0xF0000000 ∷ full_trace) (writes (0xE0000000 ∷ full_trace))
    ∷ row narrows 100 [] (0xF0000000 ∷ full_trace) (writes (0xE0000000 ∷ full_trace))
    ∷ row narrows_in_order 100 [] (0xF0000000 ∷ full_trace) (writes (0xE0000000 ∷ full_trace))
    ∷ row narrows 100 [] (0xF0000000 ∷ 0xC4100001 ∷ []) (refuses 6)
    ∷ row evaluates 100 [] (0x84100001 ∷ []) (refuses 8)
    ∷ row narrows 100 [] (0xF0000000 ∷ 0x84100001 ∷ []) (refuses 8)
    -- over 127 in the resulting record, resolved or kept
    ∷ row completes 100 [] (0xF0000000 ∷ over) (refuses 11)
    ∷ row narrows 100 [] (0xF0000000 ∷ over) (refuses 11)
    ∷ row narrows_in_order 100 [] (0xF0000000 ∷ over) (refuses 11)
    ∷ row completes 100 [] (0xF0000000 ∷ far_over) (refuses 11)
    ∷ row narrows 100 (0x80 ∷ []) (0xF0000000 ∷ 0xA0000002 ∷ (over ++ open0)) (refuses 11)
    ∷ row narrows_in_order 100 (0x80 ∷ []) (0xF0000000 ∷ 0xA0000002 ∷ (open0 ++ over)) (refuses 11)
    -- over 127 on the way only
    ∷ row completes 100 [] (0xF0000000 ∷ 0xA0000002 ∷ (over ++ 0x60000003 ∷ [])) (writes (0xE0000000 ∷ 0xC0000003 ∷ 0x0 ∷ []))
    ∷ row completes 100 [] (0xF0000000 ∷ 0xA0000002 ∷ (far_over ++ 0x60000003 ∷ [])) (writes (0xE0000000 ∷ 0xC0000003 ∷ 0x0 ∷ []))
    ∷ row narrows 100 (0x80 ∷ []) (0xF0000000 ∷ 0xA0000003 ∷ (full_trace ++ 0xC0100001 ∷ 0x0 ∷ 0x06000000 ∷ open0)) (writes (0xF0000000 ∷ 0xA0000003 ∷ (full_trace ++ 0xC0100001 ∷ 0x0 ∷ 0x06000000 ∷ open0)))
    ∷ []

pub repeated_hold : all_hold repeated ≡ true
repeated_hold = refl

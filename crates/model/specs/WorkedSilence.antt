-- Cases of request 9, by computation, through words and bytes: facts that the table ended before.
use Rattle.std.specs.Prelude.{◌≡◌, refl, true, List, [], ◌∷◌, ◌++◌, ℕ, take}
use Rattle.model.specs.Facts.{absent, silent, heard}
use Rattle.model.specs.Outcome.{product_sets}
use Rattle.model.specs.Required.{required_residual_facts, carries_obligation}
use Rattle.model.specs.Listing.{text, sitting}
use Rattle.model.specs.Worked.{Row, row, evaluates, completes, reduces, narrows, reduces_in_order, narrows_in_order, refuses, writes, all_hold, input_d}

-- The sheet of case E, and its record where fact 5 is read as not there: by the entry of the fact.
abbrev grant5 : List ℕ
grant5 = 0x88000003 ∷ 0x0 ∷ 0x20000005 ∷ []

abbrev denied5 : ℕ → List ℕ
denied5 entry = 0xE0000001 ∷ entry ∷ 0xDC000003 ∷ 0x0 ∷ 0x1 ∷ 0x50000 ∷ []

-- The grant pending, after an entry of silence, and permitted.
abbrev pending5 : List ℕ
pending5 = 0xF0000001 ∷ 0xC0050000 ∷ grant5

abbrev permitted5 : List ℕ
permitted5 = 0xE0000001 ∷ 0xC0050000 ∷ 0xC0000003 ∷ 0x1 ∷ 0x50000 ∷ []

-- A Resolved record that holds one entry of silence.
abbrev resolved5 : List ℕ
resolved5 = 0xE0000001 ∷ 0xC0050000 ∷ 0xC0000001 ∷ 0x0 ∷ []

abbrev pub silences : List Row
silences =
    -- a table without the fact's byte is silent (Worked has an empty one); where the byte is there, the fact is entered
    row evaluates 100 (0x0 ∷ []) grant5 (writes (denied5 0xC0050000))
    ∷ row evaluates 100 (0x0 ∷ 0x0 ∷ []) grant5 (writes (denied5 0x50000))
    ∷ row reduces 100 (0x0 ∷ []) grant5 (writes (denied5 0xC0050000))
    ∷ row reduces 100 (0x0 ∷ 0x0 ∷ []) grant5 (writes (denied5 0x50000))
    ∷ row reduces_in_order 100 (0x0 ∷ []) grant5 (writes (denied5 0xC0050000))
    ∷ row reduces_in_order 100 (0x0 ∷ 0x0 ∷ []) grant5 (writes (denied5 0x50000))
    -- unused fields of the last byte are entered
    ∷ row evaluates 100 (0x0 ∷ 0x10 ∷ []) (0x80000001 ∷ 0x0 ∷ 0x20000007 ∷ []) (writes (0xE0000001 ∷ 0x70000 ∷ 0xD4000001 ∷ 0x0 ∷ 0x1 ∷ 0x70000 ∷ []))
    -- the last fact of a byte, the first past it, and one before
    ∷ row evaluates 100 (0x40 ∷ []) (0x80000001 ∷ 0x0 ∷ 0x50000003 ∷ 0x20000003 ∷ 0x20000004 ∷ 0x20000000 ∷ []) (writes (0xE0000003 ∷ 0x3C004 ∷ 0x40000000 ∷ 0xC0000001 ∷ 0x1 ∷ 0x0 ∷ []))
    -- a silent fact is known false beside a pending one, and a Not makes it true
    ∷ row reduces 100 (0x80 ∷ []) (0x80000001 ∷ 0x0 ∷ 0x40000002 ∷ 0x20000000 ∷ 0x20000009 ∷ []) (writes (0xE0000001 ∷ 0xC0090000 ∷ 0xD4000001 ∷ 0x0 ∷ 0x1 ∷ 0x0 ∷ []))
    ∷ row reduces_in_order 100 (0x80 ∷ []) (0x80000001 ∷ 0x0 ∷ 0x50000002 ∷ 0x20000000 ∷ 0x30000000 ∷ 0x20000009 ∷ []) (writes (0xE0000001 ∷ 0xC0090000 ∷ 0xC0000001 ∷ 0x1 ∷ 0x90000 ∷ []))
    -- an entry of silence is accepted and stays, and the decision goes by the table
    ∷ row narrows 100 (0x0 ∷ 0x10 ∷ []) pending5 (writes permitted5)
    ∷ row narrows_in_order 100 (0x0 ∷ 0x10 ∷ []) pending5 (writes permitted5)
    ∷ row completes 100 (0x0 ∷ 0x10 ∷ []) pending5 (writes permitted5)
    -- so does an entry of Absent under a table that is silent
    ∷ row narrows 100 [] (0xF0000001 ∷ 0x50000 ∷ grant5) (writes (denied5 0x50000))
    -- the first of three entries stays; a Resolved record comes back equal
    ∷ row narrows 100 [] (0xF0000003 ∷ 0xC0050005 ∷ 0x40050000 ∷ 0x60000001 ∷ []) (writes resolved5)
    ∷ row narrows 100 (0x0 ∷ 0x10 ∷ []) resolved5 (writes resolved5)
    ∷ row narrows_in_order 100 (0x0 ∷ 0x10 ∷ []) resolved5 (writes resolved5)
    ∷ row completes 100 (0x0 ∷ 0x10 ∷ []) resolved5 (writes resolved5)
    -- the zero bits after a presence, and an unused half
    ∷ row narrows 100 [] (0xF0000001 ∷ 0xC4050000 ∷ 0x60000001 ∷ []) (refuses 8)
    ∷ row narrows 100 [] (0xF0000001 ∷ 0xC005C000 ∷ 0x60000001 ∷ []) (refuses 8)
    -- no field of this word is at fault, and the next word is missing
    ∷ row narrows 100 [] (0xF0000FFF ∷ 0xC0000000 ∷ []) (refuses 6)
    -- in a table 3 is a fault
    ∷ row reduces 100 (0x0 ∷ 0x30 ∷ []) (0x60000001 ∷ []) (refuses 3)
    ∷ row evaluates 100 (0x0 ∷ 0x30 ∷ []) (0x60000001 ∷ []) (refuses 3)
    ∷ []

pub silences_hold : all_hold silences ≡ true
silences_hold = refl

-- The questions take such a record too.
pub silence_required : (required_residual_facts product_sets pending5).count ≡ 1
silence_required = refl

pub silence_questioned : (carries_obligation product_sets pending5).number ≡ 0
silence_questioned = refl

-- The listing of case E with the byte of fact 5 entered.
pub listing_entered : sitting (take 14 input_d ++ 0 ∷ 2 ∷ 0 ∷ 0 ∷ []) ≡ text "effect deny\nproducts ----\nshape hidden\nobligations -\nfacts 5\nconsulted 5=absent\n"
listing_entered = refl

pub silence_heard : heard silent ≡ absent
silence_heard = refl

-- Sheets worked through, by computation, through words and bytes. Document 01, "Sheets worked through", its wrong turns, and those of request 8.
use Rattle.std.specs.Prelude.{◌≡◌, refl, Bool, true, false, ◌&&◌, List, [], ◌∷◌, ◌++◌, ℕ, eqb, replicate, take}
use Rattle.model.specs.Outcome.{product_sets}
use Rattle.model.specs.Partial.{permits_first, sheet_order}
use Rattle.model.specs.Calls.{Answer, refusal, wrote, afterwards, evaluate, partial_evaluate, narrow_residual, complete_residual}
use Rattle.model.specs.Required.{required_facts, required_residual_facts, is_permit_constant, is_deny_constant, carries_obligation}
use Rattle.model.specs.Listing.{text, sitting}

pub data Called : Type 0 where
  evaluates completes : Called
  reduces narrows reduces_in_order narrows_in_order : Called

-- The sheet's number, a call, the room of its output, its table and its words, and what it must answer.
pub data Expected : Type 0 where
  refuses : ℕ → Expected
  writes : List ℕ → Expected

pub data Row : Type 0 where
  row_under : ℕ → Called → ℕ → List ℕ → List ℕ → Expected → Row

-- Without a number.
abbrev pub row : Called → ℕ → List ℕ → List ℕ → Expected → Row
row = row_under 0

abbrev pub call : Called → ℕ → List ℕ → List ℕ → ℕ → Answer
call evaluates = evaluate product_sets
call reduces = partial_evaluate product_sets permits_first
call narrows = narrow_residual product_sets permits_first
call reduces_in_order = partial_evaluate product_sets sheet_order
call narrows_in_order = narrow_residual product_sets sheet_order
call completes = complete_residual product_sets

abbrev pub same_list : List ℕ → List ℕ → Bool
same_list [] [] = true
same_list [] (y ∷ ys) = false
same_list (x ∷ xs) [] = false
same_list (x ∷ xs) (y ∷ ys) = eqb x y && same_list xs ys

abbrev pub is_expected : Answer → Expected → Bool
is_expected (refusal n) (refuses m) = eqb n m
is_expected (refusal n) (writes ws) = false
is_expected (wrote ws) (refuses m) = false
is_expected (wrote ws) (writes vs) = same_list ws vs

abbrev pub holds : Row → Bool
holds (row_under n c room table given e) = is_expected (call c n given table room) e

abbrev pub all_hold : List Row → Bool
all_hold [] = true
all_hold (r ∷ rs) = holds r && all_hold rs

-- The starred sheets A to H.
abbrev pub starred : List Row
starred =
    -- A
    row evaluates 16384 [] (0x60000001 ∷ []) (writes (0xE0000000 ∷ 0xC0000001 ∷ 0x0 ∷ []))
    -- B
    ∷ row evaluates 16384 [] (0x70000000 ∷ []) (writes (0xE0000000 ∷ 0xD0000000 ∷ 0x0 ∷ 0x0 ∷ []))
    -- C: empty All and Any deny
    ∷ row evaluates 16384 [] (0x90000000 ∷ []) (writes (0xE0000000 ∷ 0xD0000000 ∷ 0x0 ∷ 0x0 ∷ []))
    ∷ row evaluates 16384 [] (0xA0000000 ∷ []) (writes (0xE0000000 ∷ 0xD0000000 ∷ 0x0 ∷ 0x0 ∷ []))
    -- D
    ∷ row evaluates 16384 (0x0 ∷ 0x10 ∷ []) (0x88000003 ∷ 0x0 ∷ 0x20000005 ∷ []) (writes (0xE0000001 ∷ 0x40050000 ∷ 0xC0000003 ∷ 0x1 ∷ 0x50000 ∷ []))
    -- E: a missing fact is Absent, by silence
    ∷ row evaluates 16384 [] (0x88000003 ∷ 0x0 ∷ 0x20000005 ∷ []) (writes (0xE0000001 ∷ 0xC0050000 ∷ 0xDC000003 ∷ 0x0 ∷ 0x1 ∷ 0x50000 ∷ []))
    -- F
    ∷ row reduces 16384 (0x0 ∷ 0x20 ∷ []) (0x88000003 ∷ 0x0 ∷ 0x20000005 ∷ []) (writes (0xF0000000 ∷ 0x88000003 ∷ 0x0 ∷ 0x20000005 ∷ []))
    -- G
    ∷ row evaluates 16384 [] (0x90000002 ∷ 0x60000003 ∷ 0x60000006 ∷ []) (writes (0xE0000000 ∷ 0xC0000002 ∷ 0x0 ∷ []))
    ∷ row evaluates 16384 [] (0xA0000002 ∷ 0x60000003 ∷ 0x60000006 ∷ []) (writes (0xE0000000 ∷ 0xC0000007 ∷ 0x0 ∷ []))
    -- H: direct evaluation keeps obligation 7; in stages there is none
    ∷ row evaluates 16384 (0x0 ∷ 0x10 ∷ []) (0x90000002 ∷ 0x80100001 ∷ 0x0 ∷ 0x7000000 ∷ 0x20000005 ∷ 0x60000001 ∷ []) (writes (0xE0000001 ∷ 0x40050000 ∷ 0xC0100001 ∷ 0x1 ∷ 0x7000000 ∷ 0x50000 ∷ []))
    ∷ row reduces 16384 (0x0 ∷ 0x20 ∷ []) (0x90000002 ∷ 0x80100001 ∷ 0x0 ∷ 0x7000000 ∷ 0x20000005 ∷ 0x60000001 ∷ []) (writes (0xF0000000 ∷ 0x90000002 ∷ 0xC0000001 ∷ 0x0 ∷ 0x80100001 ∷ 0x0 ∷ 0x7000000 ∷ 0x20000005 ∷ []))
    ∷ row completes 16384 (0x0 ∷ 0x10 ∷ []) (0xF0000000 ∷ 0x90000002 ∷ 0xC0000001 ∷ 0x0 ∷ 0x80100001 ∷ 0x0 ∷ 0x7000000 ∷ 0x20000005 ∷ []) (writes (0xE0000001 ∷ 0x40050000 ∷ 0xC0000001 ∷ 0x0 ∷ []))
    ∷ []

pub starred_hold : all_hold starred ≡ true
starred_hold = refl

-- Where a reader or a port goes wrong: each rule with a case of its own.
abbrev pub turns : List Row
turns =
    -- an empty condition All is false
    row evaluates 100 [] (0x80000001 ∷ 0x0 ∷ 0x40000000 ∷ []) (writes (0xE0000000 ∷ 0xD4000001 ∷ 0x0 ∷ 0x0 ∷ []))
    -- an empty condition Any is false too: Not makes it true
    ∷ row evaluates 100 [] (0x80000001 ∷ 0x0 ∷ 0x30000000 ∷ 0x50000000 ∷ []) (writes (0xE0000000 ∷ 0xC0000001 ∷ 0x0 ∷ []))
    -- a missing fact is Absent in a partial table too, so nothing is pending
    ∷ row reduces 100 [] (0x88000003 ∷ 0x0 ∷ 0x20000005 ∷ []) (writes (0xE0000001 ∷ 0xC0050000 ∷ 0xDC000003 ∷ 0x0 ∷ 0x1 ∷ 0x50000 ∷ []))
    -- All unites no obligations
    ∷ row evaluates 100 (0x54 ∷ []) (0x90000002 ∷ 0x80100003 ∷ 0x0 ∷ 0x7000000 ∷ 0x20000001 ∷ 0x80100006 ∷ 0x0 ∷ 0x8000000 ∷ 0x20000002 ∷ []) (writes (0xE0000002 ∷ 0x40014002 ∷ 0xC0000002 ∷ 0x0 ∷ []))
    -- a meet equal to the earlier outcome keeps the earlier permit whole
    ∷ row evaluates 100 (0x54 ∷ []) (0x90000002 ∷ 0x80100003 ∷ 0x0 ∷ 0x7000000 ∷ 0x20000001 ∷ 0x80100003 ∷ 0x0 ∷ 0x8000000 ∷ 0x20000002 ∷ []) (writes (0xE0000002 ∷ 0x40014002 ∷ 0xC0100003 ∷ 0x1 ∷ 0x7000000 ∷ 0x10000 ∷ []))
    -- a join equal to both keeps the earlier and appends obligations; Any goes past its first permit
    ∷ row evaluates 100 (0x54 ∷ []) (0xA0000002 ∷ 0x80100003 ∷ 0x0 ∷ 0x7000000 ∷ 0x20000001 ∷ 0x80100003 ∷ 0x0 ∷ 0x8000000 ∷ 0x20000002 ∷ []) (writes (0xE0000002 ∷ 0x40014002 ∷ 0xC0200003 ∷ 0x1 ∷ 0x7080000 ∷ 0x10000 ∷ []))
    -- a join equal to the incoming alone keeps that
    ∷ row evaluates 100 (0x54 ∷ []) (0xA0000002 ∷ 0x80100001 ∷ 0x0 ∷ 0x7000000 ∷ 0x20000001 ∷ 0x80100003 ∷ 0x0 ∷ 0x8000000 ∷ 0x20000002 ∷ []) (writes (0xE0000002 ∷ 0x40014002 ∷ 0xC0100003 ∷ 0x1 ∷ 0x8000000 ∷ 0x20000 ∷ []))
    -- a join equal to the earlier alone keeps it
    ∷ row evaluates 100 (0x54 ∷ []) (0xA0000002 ∷ 0x80100003 ∷ 0x0 ∷ 0x7000000 ∷ 0x20000001 ∷ 0x80100001 ∷ 0x0 ∷ 0x8000000 ∷ 0x20000002 ∷ []) (writes (0xE0000002 ∷ 0x40014002 ∷ 0xC0100003 ∷ 0x1 ∷ 0x7000000 ∷ 0x10000 ∷ []))
    -- else the union of outcomes and of obligations, no label, no facts
    ∷ row evaluates 100 (0x54 ∷ []) (0xA0000002 ∷ 0x80100001 ∷ 0x80010000 ∷ 0x7000000 ∷ 0x20000001 ∷ 0x80200002 ∷ 0x0 ∷ 0x7080000 ∷ 0x20000002 ∷ []) (writes (0xE0000002 ∷ 0x40014002 ∷ 0xC0200003 ∷ 0x0 ∷ 0x7080000 ∷ []))
    -- a residual holds resolved permits first
    ∷ row reduces 100 (0x20 ∷ []) (0x90000002 ∷ 0x80000001 ∷ 0x0 ∷ 0x20000001 ∷ 0x60000001 ∷ []) (writes (0xF0000000 ∷ 0x90000002 ∷ 0xC0000001 ∷ 0x0 ∷ 0x80000001 ∷ 0x0 ∷ 0x20000001 ∷ []))
    -- Any without resolved permits holds its first resolved deny first
    ∷ row reduces 100 (0x24 ∷ []) (0xA0000003 ∷ 0x80000001 ∷ 0x0 ∷ 0x20000001 ∷ 0x80000002 ∷ 0x0 ∷ 0x20000000 ∷ 0x70000000 ∷ []) (writes (0xF0000001 ∷ 0x0 ∷ 0xA0000002 ∷ 0xD4000002 ∷ 0x0 ∷ 0x1 ∷ 0x0 ∷ 0x80000001 ∷ 0x0 ∷ 0x20000001 ∷ []))
    -- a single pending policy arm stays in its list
    ∷ row reduces 100 (0x20 ∷ []) (0xA0000001 ∷ 0x80000001 ∷ 0x0 ∷ 0x20000001 ∷ []) (writes (0xF0000000 ∷ 0xA0000001 ∷ 0x80000001 ∷ 0x0 ∷ 0x20000001 ∷ []))
    -- a single pending condition stands by itself
    ∷ row reduces 100 (0x60 ∷ []) (0x80000001 ∷ 0x0 ∷ 0x40000002 ∷ 0x20000000 ∷ 0x20000001 ∷ []) (writes (0xF0000001 ∷ 0x40000000 ∷ 0x80000001 ∷ 0x0 ∷ 0x20000001 ∷ []))
    -- a repeated fact stays in the decisive clause
    ∷ row evaluates 100 (0x10 ∷ []) (0x80000001 ∷ 0x0 ∷ 0x40000002 ∷ 0x20000001 ∷ 0x20000001 ∷ []) (writes (0xE0000001 ∷ 0x40010000 ∷ 0xC0000001 ∷ 0x2 ∷ 0x10001 ∷ []))
    -- a true Any names the deciding arm; arms after it are not read
    ∷ row evaluates 100 (0x10 ∷ []) (0x80000001 ∷ 0x0 ∷ 0x50000003 ∷ 0x20000000 ∷ 0x20000001 ∷ 0x20000002 ∷ []) (writes (0xE0000002 ∷ 0x4001 ∷ 0xC0000001 ∷ 0x1 ∷ 0x10000 ∷ []))
    -- arms after a policy All's deny are not read
    ∷ row evaluates 100 (0x10 ∷ []) (0x90000003 ∷ 0x60000001 ∷ 0x70000000 ∷ 0x80000001 ∷ 0x0 ∷ 0x20000001 ∷ []) (writes (0xE0000000 ∷ 0xD0000000 ∷ 0x0 ∷ 0x0 ∷ []))
    -- Any denies with the first deny's clause
    ∷ row evaluates 100 [] (0xA0000002 ∷ 0x80000001 ∷ 0x0 ∷ 0x20000000 ∷ 0x80000002 ∷ 0x0 ∷ 0x20000001 ∷ []) (writes (0xE0000002 ∷ 0xC000C001 ∷ 0xD4000001 ∷ 0x0 ∷ 0x1 ∷ 0x0 ∷ []))
    -- OrElse takes the fallback on deny
    ∷ row evaluates 100 (0x10 ∷ []) (0xB0000000 ∷ 0x70000000 ∷ 0x80000001 ∷ 0x80058007 ∷ 0x20000001 ∷ []) (writes (0xE0000001 ∷ 0x40010000 ∷ 0xC0000001 ∷ 0x80050001 ∷ 0x10000 ∷ []))
    -- and the primary on permit
    ∷ row evaluates 100 [] (0xB0000000 ∷ 0x60000002 ∷ 0x60000001 ∷ []) (writes (0xE0000000 ∷ 0xC0000002 ∷ 0x0 ∷ []))
    -- with a pending primary both are kept
    ∷ row reduces 100 (0x80 ∷ []) (0xB0000000 ∷ 0x80000001 ∷ 0x0 ∷ 0x20000000 ∷ 0x60000004 ∷ []) (writes (0xF0000000 ∷ 0xB0000000 ∷ 0x80000001 ∷ 0x0 ∷ 0x20000000 ∷ 0xC0000004 ∷ 0x0 ∷ []))
    -- a known grant names by the partial table itself, an Unknown fact too, which is not consulted; and so in narrowing
    ∷ row reduces 100 (0x80 ∷ []) (0x80000001 ∷ 0x0 ∷ 0x40000002 ∷ 0x20000000 ∷ 0x20000001 ∷ []) (writes (0xE0000001 ∷ 0x10000 ∷ 0xD4000001 ∷ 0x0 ∷ 0x1 ∷ 0x0 ∷ []))
    ∷ row narrows 100 (0x80 ∷ []) (0xF0000000 ∷ 0x80000001 ∷ 0x0 ∷ 0x40000002 ∷ 0x20000000 ∷ 0x20000001 ∷ []) (writes (0xE0000001 ∷ 0x10000 ∷ 0xD4000001 ∷ 0x0 ∷ 0x1 ∷ 0x0 ∷ []))
    -- a later arm decides, and is named, where Unknown satisfies nothing
    ∷ row reduces 100 (0x80 ∷ []) (0x80000001 ∷ 0x0 ∷ 0x50000003 ∷ 0x20000000 ∷ 0x30000000 ∷ 0x20000001 ∷ 0x20000002 ∷ []) (writes (0xE0000001 ∷ 0x10000 ∷ 0xC0000001 ∷ 0x1 ∷ 0x10000 ∷ []))
    -- Not of an Unknown fact is satisfied and decides: its fact alone is named, and not the Present one that made the grant known
    ∷ row reduces 100 (0x90 ∷ []) (0x80000001 ∷ 0x0 ∷ 0x50000002 ∷ 0x30000000 ∷ 0x20000000 ∷ 0x20000001 ∷ []) (writes (0xE0000001 ∷ 0x40010000 ∷ 0xC0000001 ∷ 0x1 ∷ 0x0 ∷ []))
    -- the first prior entry stays where the table is silent, and the decision goes by the table
    ∷ row narrows 100 [] (0xF0000001 ∷ 0x40050000 ∷ 0x88000003 ∷ 0x0 ∷ 0x20000005 ∷ []) (writes (0xE0000001 ∷ 0x40050000 ∷ 0xDC000003 ∷ 0x0 ∷ 0x1 ∷ 0x50000 ∷ []))
    -- prior entries once each, Unknown ones too
    ∷ row narrows 100 [] (0xF0000003 ∷ 0x40050005 ∷ 0x80060000 ∷ 0x60000001 ∷ []) (writes (0xE0000002 ∷ 0x40058006 ∷ 0xC0000001 ∷ 0x0 ∷ []))
    -- a Resolved record comes back equal
    ∷ row narrows 100 (0xAA ∷ []) (0xE0000002 ∷ 0x40050005 ∷ 0xC0000001 ∷ 0x0 ∷ []) (writes (0xE0000002 ∷ 0x40050005 ∷ 0xC0000001 ∷ 0x0 ∷ []))
    -- a constant on top is resolved
    ∷ row completes 100 [] (0xF0000000 ∷ 0x60000001 ∷ []) (writes (0xE0000000 ∷ 0xC0000001 ∷ 0x0 ∷ []))
    ∷ []

pub turns_hold : all_hold turns ≡ true
turns_hold = refl

-- Refusals in their order.
abbrev pub refusals : List Row
refusals =
    -- the leftmost faulty field of a word decides
    row evaluates 100 [] (0x80300001 ∷ 0x0 ∷ 0x7074000 ∷ 0x0 ∷ []) (refuses 8)
    ∷ row evaluates 100 [] (0x80300001 ∷ 0x0 ∷ 0x7400700 ∷ 0x0 ∷ []) (refuses 8)
    -- unused tail fields are fields in their place
    ∷ row evaluates 100 [] (0x80200001 ∷ 0x0 ∷ 0x7070001 ∷ 0x0 ∷ []) (refuses 8)
    ∷ row evaluates 100 [] (0x80200001 ∷ 0x0 ∷ 0x7080001 ∷ 0x0 ∷ []) (refuses 8)
    -- a count says nothing of presence in advance
    ∷ row narrows 100 [] (0xF0000FFF ∷ 0x4000000 ∷ []) (refuses 8)
    ∷ row evaluates 100 [] (0x80500001 ∷ 0x0 ∷ 0x7074000 ∷ []) (refuses 8)
    -- an obligation count over 64 is a field of word one
    ∷ row evaluates 100 [] (0x84100001 ∷ []) (refuses 8)
    -- the table's faults come before those of the words, also where it can't matter
    ∷ row completes 100 (0x80 ∷ []) (0xE0000000 ∷ 0xC0000001 ∷ 0x0 ∷ []) (refuses 4)
    ∷ row evaluates 100 (0x3 ∷ []) (0x60000001 ∷ []) (refuses 3)
    -- 4 before 3 where Unknown stands first
    ∷ row evaluates 100 (0x23 ∷ []) (0x60000001 ∷ []) (refuses 4)
    ∷ row reduces 100 (0x23 ∷ []) (0x60000001 ∷ []) (refuses 3)
    -- kinds that are not allowed here
    ∷ row evaluates 100 [] (0xC0000001 ∷ 0x0 ∷ []) (refuses 5)
    ∷ row evaluates 100 [] (0x20000001 ∷ []) (refuses 5)
    ∷ row evaluates 100 [] (0x80000001 ∷ 0x0 ∷ 0x60000001 ∷ []) (refuses 5)
    ∷ row narrows 100 [] (0xE0000000 ∷ 0x60000001 ∷ []) (refuses 5)
    ∷ row narrows 100 [] (0x60000001 ∷ []) (refuses 5)
    -- words end early
    ∷ row narrows 100 [] (0xF0000000 ∷ []) (refuses 6)
    ∷ row evaluates 100 [] (0x80000001 ∷ []) (refuses 6)
    -- shape of a 12; an absent label; the outcome of a 13 without a denied one
    ∷ row narrows 100 [] (0xF0000000 ∷ 0xC8000001 ∷ 0x0 ∷ []) (refuses 8)
    ∷ row evaluates 100 [] (0x80000001 ∷ 0x10000 ∷ 0x0 ∷ []) (refuses 8)
    ∷ row narrows 100 [] (0xF0000000 ∷ 0xD0000001 ∷ 0x0 ∷ 0x0 ∷ []) (refuses 8)
    -- words after the tree
    ∷ row evaluates 100 [] (0x60000001 ∷ 0x0 ∷ []) (refuses 10)
    -- a length outside its range
    ∷ row evaluates 100 [] ([]) (refuses 1)
    -- room
    ∷ row evaluates 2 [] (0x60000001 ∷ []) (refuses 11)
    ∷ row evaluates 3 [] (0x60000001 ∷ []) (writes (0xE0000000 ∷ 0xC0000001 ∷ 0x0 ∷ []))
    ∷ row reduces 3 (0x0 ∷ 0x20 ∷ []) (0x88000003 ∷ 0x0 ∷ 0x20000005 ∷ []) (refuses 11)
    ∷ []

pub refusals_hold : all_hold refusals ≡ true
refusals_hold = refl

-- ---- levels: 32 pass, 33 give 7; at the 33rd a missing word 6 and a kind 5 come first; a grant's own words come before its condition's level
abbrev pub nested : ℕ → List ℕ → List ℕ
nested n ws = replicate n 0x90000001 ++ ws

abbrev pub level_rows : List Row
level_rows =
    row evaluates 100 [] (nested 31 (0x70000000 ∷ [])) (writes (0xE0000000 ∷ 0xD0000000 ∷ 0 ∷ 0 ∷ []))
    ∷ row evaluates 100 [] (nested 32 (0x70000000 ∷ [])) (refuses 7)
    ∷ row evaluates 100 [] (nested 32 []) (refuses 6)
    ∷ row evaluates 100 [] (nested 32 (0xC0000000 ∷ [])) (refuses 5)
    ∷ row evaluates 100 [] (nested 31 (0x80000001 ∷ 1 ∷ 0 ∷ [])) (refuses 8)
    ∷ row evaluates 100 [] (nested 31 (0x80000001 ∷ 0 ∷ 0 ∷ [])) (refuses 7)
    ∷ row evaluates 100 [] (nested 31 (0x90000000 ∷ [])) (writes (0xE0000000 ∷ 0xD0000000 ∷ 0 ∷ 0 ∷ []))
    ∷ row narrows 100 [] (0xF0000000 ∷ nested 31 (0x70000000 ∷ [])) (writes (0xE0000000 ∷ 0xD0000000 ∷ 0 ∷ 0 ∷ []))
    ∷ []

pub levels_hold : all_hold level_rows ≡ true
levels_hold = refl

-- ---- the output afterwards
pub output_written : afterwards (evaluate product_sets 0 (0x60000001 ∷ []) [] 5) (1 ∷ 2 ∷ 3 ∷ 4 ∷ 5 ∷ []) ≡ 0xE0000000 ∷ 0xC0000001 ∷ 0 ∷ 4 ∷ 5 ∷ []
output_written = refl

pub output_kept : afterwards (evaluate product_sets 0 (0x60000001 ∷ []) [] 2) (1 ∷ 2 ∷ []) ≡ 1 ∷ 2 ∷ []
output_kept = refl

-- ---- required facts and the questions
abbrev pub required : List ℕ
required = 0x90000002 ∷ 0x80000001 ∷ 0 ∷ 0x40000002 ∷ 0x20000000 ∷ 0x20000041 ∷ 0x80000001 ∷ 0 ∷ 0x20000000 ∷ []

pub required_set : take 3 (required_facts product_sets required).set ≡ 0x8000000000000000 ∷ 0x4000000000000000 ∷ 0 ∷ []
required_set = refl

pub required_count : (required_facts product_sets required).count ≡ 2
required_count = refl

pub required_refused : (required_facts product_sets (0x20000000 ∷ [])).number ≡ 5
required_refused = refl

pub required_none : (required_facts product_sets (0x20000000 ∷ [])).count ≡ 0
required_none = refl

pub residual_none : (required_residual_facts product_sets (0xE0000001 ∷ 0x40050000 ∷ 0xC0000003 ∷ 1 ∷ 0x00050000 ∷ [])).count ≡ 0
residual_none = refl

pub residual_five : (required_residual_facts product_sets (0xF0000000 ∷ 0x88000003 ∷ 0 ∷ 0x20000005 ∷ [])).count ≡ 1
residual_five = refl

pub permit_constant : (is_permit_constant product_sets (0xF0000000 ∷ 0x60000001 ∷ [])).yes ≡ true
permit_constant = refl

pub permit_stored : (is_permit_constant product_sets (0xE0000000 ∷ 0xC0000001 ∷ 0 ∷ [])).yes ≡ true
permit_stored = refl

pub deny_no_permit : (is_permit_constant product_sets (0xF0000000 ∷ 0x70000000 ∷ [])).yes ≡ false
deny_no_permit = refl

pub deny_constant : (is_deny_constant product_sets (0xF0000000 ∷ 0x60000001 ∷ [])).yes ≡ false
deny_constant = refl

pub deny_stored : (is_deny_constant product_sets (0xE0000000 ∷ 0xD0000000 ∷ 0 ∷ 0 ∷ [])).yes ≡ true
deny_stored = refl

pub deny_refused : (is_deny_constant product_sets (0xE0000000 ∷ 0xD0000000 ∷ 0 ∷ [])).number ≡ 6
deny_refused = refl

pub obligation_carried : (carries_obligation product_sets (0xF0000000 ∷ 0x90000002 ∷ 0x60000001 ∷ 0xC0100001 ∷ 0 ∷ 0x07000000 ∷ [])).yes ≡ true
obligation_carried = refl

pub no_obligation : (carries_obligation product_sets (0xF0000000 ∷ 0x90000002 ∷ 0x60000001 ∷ 0xC0000001 ∷ 0 ∷ [])).yes ≡ false
no_obligation = refl

-- ---- the listing
abbrev pub input_d : List ℕ
input_d = 0 ∷ 3 ∷ 0x88 ∷ 0 ∷ 0 ∷ 3 ∷ 0 ∷ 0 ∷ 0 ∷ 0 ∷ 0x20 ∷ 0 ∷ 0 ∷ 5 ∷ 0 ∷ 2 ∷ 0 ∷ 0x10 ∷ []

pub listing_d : sitting input_d ≡ text "effect permit\nproducts 0003\nshape -\nobligations -\nfacts 5\nconsulted 5=present\n"
listing_d = refl

-- case E: an empty table
pub listing_e : sitting (take 14 input_d ++ 0 ∷ 0 ∷ []) ≡ text "effect deny\nproducts ----\nshape hidden\nobligations -\nfacts 5\nconsulted 5=silent\n"
listing_e = refl

-- Any of two grants (outcome 0x00AF; obligations 7, 63 and 10; facts 1,000 and 0)
abbrev pub input_long : List ℕ
input_long =
    0 ∷ 10 ∷ 0xA0 ∷ 0 ∷ 0 ∷ 2 ∷ 0x80 ∷ 0x20 ∷ 0 ∷ 0xAF ∷ 0 ∷ 0 ∷ 0 ∷ 0 ∷ 7 ∷ 63 ∷ 0 ∷ 0 ∷ 0x30 ∷ 0 ∷ 0 ∷ 0 ∷ 0x20 ∷ 0 ∷ 3 ∷ 0xE8
    ∷ 0x80 ∷ 0x10 ∷ 0 ∷ 0xAF ∷ 0 ∷ 0 ∷ 0 ∷ 0 ∷ 10 ∷ 0 ∷ 0 ∷ 0 ∷ 0x20 ∷ 0 ∷ 0 ∷ 0 ∷ 0 ∷ 1 ∷ 0x40 ∷ []

pub listing_long : sitting input_long ≡ text "effect permit\nproducts 00AF\nshape -\nobligations 7,63,10\nfacts 1000\nconsulted 1000=silent,0=present\n"
listing_long = refl

-- input that ends early, after 1 and 2; later bytes are ignored
pub listing_empty : sitting [] ≡ text "refused 6\n"
listing_empty = refl

pub listing_no_words : sitting (0 ∷ 0 ∷ []) ≡ text "refused 1\n"
listing_no_words = refl

pub listing_many_words : sitting (0x10 ∷ 1 ∷ []) ≡ text "refused 1\n"
listing_many_words = refl

pub listing_cut : sitting (take 15 input_d) ≡ text "refused 6\n"
listing_cut = refl

pub listing_long_table : sitting (take 14 input_d ++ 1 ∷ 1 ∷ []) ≡ text "refused 2\n"
listing_long_table = refl

pub listing_cut_table : sitting (take 17 input_d) ≡ text "refused 6\n"
listing_cut_table = refl

pub listing_fault : sitting (take 14 input_d ++ 0 ∷ 1 ∷ 0x80 ∷ []) ≡ text "refused 4\n"
listing_fault = refl

pub listing_more : sitting (input_d ++ 1 ∷ []) ≡ sitting input_d
listing_more = refl

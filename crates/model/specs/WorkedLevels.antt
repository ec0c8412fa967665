-- Cases of request 14, by computation, through words and bytes: which tables are accepted, and the calls by them, beside those without a table.
use Rattle.std.specs.Prelude.{◌≡◌, refl, Bool, true, false, ◌&&◌, List, [], ◌∷◌, ◌++◌, map, ℕ, zero, suc, ◌+◌, min, max, replicate}
use Rattle.std.proofs.Math.Option.{Option, none, some}
use Rattle.model.specs.Partial.{permits_first, sheet_order}
use Rattle.model.specs.Calls.{Answer, afterwards}
use Rattle.model.specs.Levels.{OutcomeTable, meet_of, join_of, outcome_count, closed, accepts}
use Rattle.model.specs.Products.{evaluate, partial_evaluate, narrow_residual, complete_residual}
use Rattle.model.specs.Worked.{Called, evaluates, completes, reduces, narrows, reduces_in_order, narrows_in_order, Row, row_under, row, Expected, refuses, writes, is_expected}

-- A row by a table, or without one.
pub data LevelRow : Type 0 where
  by : Option OutcomeTable → Row → LevelRow

abbrev pub call_by : Option OutcomeTable → Called → ℕ → List ℕ → List ℕ → ℕ → Answer
call_by g evaluates = evaluate g
call_by g reduces = partial_evaluate g permits_first
call_by g narrows = narrow_residual g permits_first
call_by g reduces_in_order = partial_evaluate g sheet_order
call_by g narrows_in_order = narrow_residual g sheet_order
call_by g completes = complete_residual g

abbrev pub all_by : List LevelRow → Bool
all_by [] = true
all_by (by g (row_under n c room table given e) ∷ rows) = is_expected (call_by g c n given table room) e && all_by rows

-- ---- tables
abbrev pub table : ℕ → List ℕ → Option OutcomeTable
table n bs = some (record { levels = n; bytes = bs })

-- L2, C3, and M3: three levels between a least and a greatest.
abbrev pub L2 : Option OutcomeTable
L2 = table 2 (0 ∷ 0 ∷ 0 ∷ 1 ∷ 0 ∷ 1 ∷ 1 ∷ 1 ∷ [])

abbrev pub C3 : Option OutcomeTable
C3 = table 3 (0 ∷ 0 ∷ 0 ∷ 0 ∷ 1 ∷ 1 ∷ 0 ∷ 1 ∷ 2 ∷ 0 ∷ 1 ∷ 2 ∷ 1 ∷ 1 ∷ 2 ∷ 2 ∷ 2 ∷ 2 ∷ [])

abbrev pub M3 : Option OutcomeTable
M3 =
    table 5
    (0 ∷ 0 ∷ 0 ∷ 0 ∷ 0 ∷ 0 ∷ 1 ∷ 0 ∷ 0 ∷ 1 ∷ 0 ∷ 0 ∷ 2 ∷ 0 ∷ 2 ∷ 0 ∷ 0 ∷ 0 ∷ 3 ∷ 3 ∷ 0 ∷ 1 ∷ 2 ∷ 3 ∷ 4
    ∷ 0 ∷ 1 ∷ 2 ∷ 3 ∷ 4 ∷ 1 ∷ 1 ∷ 4 ∷ 4 ∷ 4 ∷ 2 ∷ 4 ∷ 2 ∷ 4 ∷ 4 ∷ 3 ∷ 4 ∷ 4 ∷ 3 ∷ 4 ∷ 4 ∷ 4 ∷ 4 ∷ 4 ∷ 4 ∷ [])

-- A chain of any number of levels: the smaller of two, and the greater.
abbrev up_to : ℕ → List ℕ
up_to zero = []
up_to (suc n) = up_to n ++ n ∷ []

abbrev pairs : (ℕ → ℕ → ℕ) → List ℕ → List ℕ → List ℕ
pairs op [] bs = []
pairs op (a ∷ as') bs = map (op a) bs ++ pairs op as' bs

abbrev pub chain : ℕ → Option OutcomeTable
chain n = table n (pairs min (up_to n) (up_to n) ++ pairs max (up_to n) (up_to n))

-- Its join is no lattice's.
abbrev pub xor : Option OutcomeTable
xor = table 2 (0 ∷ 0 ∷ 0 ∷ 1 ∷ 0 ∷ 1 ∷ 1 ∷ 0 ∷ [])

-- 0 below 1 and 2, these below 3, 3 below 4: meets, and upper bounds of which that of 1 and 2 is not the least.
abbrev lower : List ℕ
lower = 0 ∷ 0 ∷ 0 ∷ 0 ∷ 0 ∷ 0 ∷ 1 ∷ 0 ∷ 1 ∷ 1 ∷ 0 ∷ 0 ∷ 2 ∷ 2 ∷ 2 ∷ 0 ∷ 1 ∷ 2 ∷ 3 ∷ 3 ∷ 0 ∷ 1 ∷ 2 ∷ 3 ∷ 4 ∷ []

abbrev upper : List ℕ
upper = 0 ∷ 1 ∷ 2 ∷ 3 ∷ 4 ∷ 1 ∷ 1 ∷ 4 ∷ 3 ∷ 4 ∷ 2 ∷ 4 ∷ 2 ∷ 3 ∷ 4 ∷ 3 ∷ 3 ∷ 3 ∷ 3 ∷ 4 ∷ 4 ∷ 4 ∷ 4 ∷ 4 ∷ 4 ∷ []

-- Level 0 permitted, by a table that is accepted.
abbrev pub accepted : Option OutcomeTable → LevelRow
accepted g = by g (row evaluates 3 [] (0x60000000 ∷ []) (writes (0xE0000000 ∷ 0xC0000000 ∷ 0x0 ∷ [])))

-- Refused, whatever else is to be told: no words, and no room.
abbrev unaccepted : Option OutcomeTable → LevelRow
unaccepted g = by g (row evaluates 0 [] [] (refuses 21))

abbrev pub tables : List LevelRow
tables =
    accepted none
    ∷ accepted (table 1 (0 ∷ 0 ∷ []))
    ∷ accepted L2
    -- the dual: level 0 may be the greatest
    ∷ accepted (table 2 (0 ∷ 1 ∷ 1 ∷ 1 ∷ 0 ∷ 0 ∷ 0 ∷ 1 ∷ []))
    ∷ accepted C3
    -- the lattice need not be distributive
    ∷ accepted M3
    -- a count of no levels, whatever the bytes, and of 17
    ∷ unaccepted (table 0 [])
    ∷ unaccepted (table 0 (0 ∷ 0 ∷ []))
    ∷ unaccepted (chain 17)
    ∷ unaccepted (table 4294967297 (0 ∷ 0 ∷ []))
    -- a byte less, a byte more, another count's bytes
    ∷ unaccepted (table 2 (0 ∷ 0 ∷ 0 ∷ 1 ∷ 0 ∷ 1 ∷ 1 ∷ []))
    ∷ unaccepted (table 2 (0 ∷ 0 ∷ 0 ∷ 1 ∷ 0 ∷ 1 ∷ 1 ∷ 1 ∷ 0 ∷ []))
    ∷ unaccepted (table 1 [])
    ∷ unaccepted (table 1 (0 ∷ 0 ∷ 0 ∷ 1 ∷ 0 ∷ 1 ∷ 1 ∷ 1 ∷ []))
    -- a byte that is no level, of a join and of a meet
    ∷ unaccepted (table 1 (0 ∷ 1 ∷ []))
    ∷ unaccepted (table 2 (255 ∷ 0 ∷ 0 ∷ 1 ∷ 0 ∷ 1 ∷ 1 ∷ 1 ∷ []))
    -- neither absorbs the other; the meet alone doesn't; the join alone doesn't
    ∷ unaccepted xor
    ∷ unaccepted (table 2 (0 ∷ 0 ∷ 0 ∷ 1 ∷ 0 ∷ 0 ∷ 0 ∷ 1 ∷ []))
    ∷ unaccepted (table 2 (0 ∷ 0 ∷ 0 ∷ 0 ∷ 0 ∷ 1 ∷ 1 ∷ 1 ∷ []))
    ∷ unaccepted (table 2 (0 ∷ 0 ∷ 0 ∷ 1 ∷ 1 ∷ 1 ∷ 1 ∷ 1 ∷ []))
    -- the meet alone does not commute; the join alone
    ∷ unaccepted (table 2 (0 ∷ 0 ∷ 1 ∷ 1 ∷ 0 ∷ 1 ∷ 1 ∷ 1 ∷ []))
    ∷ unaccepted (table 2 (0 ∷ 0 ∷ 0 ∷ 1 ∷ 0 ∷ 0 ∷ 1 ∷ 1 ∷ []))
    -- neither associates; the join alone does not, where it is no least upper bound; the meet alone, in the dual
    ∷ unaccepted (table 3 (0 ∷ 0 ∷ 2 ∷ 0 ∷ 1 ∷ 1 ∷ 2 ∷ 1 ∷ 2 ∷ 0 ∷ 1 ∷ 0 ∷ 1 ∷ 1 ∷ 2 ∷ 0 ∷ 2 ∷ 2 ∷ []))
    ∷ unaccepted (table 5 (lower ++ upper))
    ∷ unaccepted (table 5 (upper ++ lower))
    ∷ []

pub tables_hold : all_by tables ≡ true
unfolding accepts meet_of join_of outcome_count
tables_hold = refl

-- ---- calls by them
abbrev sheet_s : List ℕ
sheet_s = 0xA0000003 ∷ 0x80000001 ∷ 0x0 ∷ 0x20000005 ∷ 0x80000002 ∷ 0x0 ∷ 0x20000006 ∷ 0x60000003 ∷ []

abbrev pending_s : List ℕ
pending_s = 0xF0000001 ∷ 0x40060000 ∷ 0xA0000003 ∷ 0xC0000002 ∷ 0x1 ∷ 0x60000 ∷ 0xC0000003 ∷ 0x0 ∷ 0x80000001 ∷ 0x0 ∷ 0x20000005 ∷ []

abbrev permits : ℕ → Expected
permits o = writes (0xE0000000 ∷ o ∷ 0x0 ∷ [])

abbrev pub decided : Option OutcomeTable → List ℕ → Expected → LevelRow
decided g sheet e = by g (row evaluates 100 [] sheet e)

abbrev pub levels : List LevelRow
levels =
    -- lists meet and join by the table, and by bits without one
    decided C3 (0x90000002 ∷ 0x60000001 ∷ 0x60000002 ∷ []) (permits 0xC0000001)
    ∷ decided none (0x90000002 ∷ 0x60000001 ∷ 0x60000002 ∷ []) (permits 0xC0000000)
    ∷ decided C3 (0xA0000002 ∷ 0x60000001 ∷ 0x60000002 ∷ []) (permits 0xC0000002)
    ∷ decided none (0xA0000002 ∷ 0x60000001 ∷ 0x60000002 ∷ []) (permits 0xC0000003)
    ∷ decided M3 (0x90000002 ∷ 0x60000001 ∷ 0x60000002 ∷ []) (permits 0xC0000000)
    ∷ decided M3 (0xA0000002 ∷ 0x60000001 ∷ 0x60000002 ∷ []) (permits 0xC0000004)
    ∷ decided (chain 4) (0xA000000A ∷ map (λ o. 0x60000000 + o) (2 ∷ 1 ∷ 0 ∷ 1 ∷ 2 ∷ 1 ∷ 0 ∷ 1 ∷ 2 ∷ 1 ∷ [])) (permits 0xC0000002)
    ∷ decided none (0xA000000A ∷ map (λ o. 0x60000000 + o) (2 ∷ 1 ∷ 0 ∷ 1 ∷ 2 ∷ 1 ∷ 0 ∷ 1 ∷ 2 ∷ 1 ∷ [])) (permits 0xC0000003)
    ∷ decided M3 (0xA0000002 ∷ 0x80100001 ∷ 0x0 ∷ 0x7000000 ∷ 0x0 ∷ 0x80200002 ∷ 0x0 ∷ 0x8070000 ∷ 0x0 ∷ []) (writes (0xE0000000 ∷ 0xC0200004 ∷ 0x0 ∷ 0x7080000 ∷ []))
    -- the dual of L2
    ∷ decided (table 2 (0 ∷ 1 ∷ 1 ∷ 1 ∷ 0 ∷ 0 ∷ 0 ∷ 1 ∷ [])) (0x90000002 ∷ 0x60000000 ∷ 0x60000001 ∷ []) (permits 0xC0000001)
    ∷ decided (table 2 (0 ∷ 1 ∷ 1 ∷ 1 ∷ 0 ∷ 0 ∷ 0 ∷ 1 ∷ [])) (0xA0000002 ∷ 0x60000000 ∷ 0x60000001 ∷ []) (permits 0xC0000000)
    -- empty lists deny, as ever
    ∷ decided C3 (0x90000000 ∷ []) (writes (0xE0000000 ∷ 0xD0000000 ∷ 0x0 ∷ 0x0 ∷ []))
    ∷ decided C3 (0xA0000000 ∷ []) (writes (0xE0000000 ∷ 0xD0000000 ∷ 0x0 ∷ 0x0 ∷ []))
    -- an outcome that is no level gives 8: of a Permit, of a Grant before its second word, of what is never read; after 7
    ∷ decided L2 (0x60000001 ∷ []) (permits 0xC0000001)
    ∷ decided L2 (0x60000002 ∷ []) (refuses 8)
    ∷ decided L2 (0x80000002 ∷ []) (refuses 8)
    ∷ decided L2 (0x80000001 ∷ []) (refuses 6)
    ∷ decided L2 (replicate 32 0x90000001 ++ 0x60000002 ∷ []) (refuses 7)
    ∷ decided L2 (0xB0000000 ∷ 0x60000001 ∷ 0x60000002 ∷ []) (refuses 8)
    ∷ decided L2 (0x90000002 ∷ 0x60000001 ∷ 0x60000002 ∷ 0x60000000 ∷ []) (refuses 8)
    ∷ decided L2 (0xA0000002 ∷ 0x0 ∷ 0x60000002 ∷ []) (refuses 5)
    -- of a node 12, and of a node 13 that has a denied outcome; without one its field is 0, by every table
    ∷ by L2 (row completes 100 [] (0xE0000000 ∷ 0xC0000002 ∷ 0x0 ∷ []) (refuses 8))
    ∷ by L2 (row completes 100 [] (0xE0000000 ∷ 0xD4000002 ∷ 0x0 ∷ 0x0 ∷ []) (refuses 8))
    ∷ by L2 (row completes 100 [] (0xE0000000 ∷ 0xD4000001 ∷ 0x0 ∷ 0x0 ∷ []) (writes (0xE0000000 ∷ 0xD4000001 ∷ 0x0 ∷ 0x0 ∷ [])))
    ∷ by L2 (row completes 100 [] (0xE0000000 ∷ 0xD0000000 ∷ 0x0 ∷ 0x0 ∷ []) (writes (0xE0000000 ∷ 0xD0000000 ∷ 0x0 ∷ 0x0 ∷ [])))
    ∷ by L2 (row completes 100 [] (0xE0000000 ∷ 0xD0000001 ∷ 0x0 ∷ 0x0 ∷ []) (refuses 8))
    ∷ by L2 (row narrows 100 (0x0 ∷ 0x20 ∷ []) (0xF0000000 ∷ 0x80000002 ∷ 0x0 ∷ 0x20000005 ∷ []) (refuses 8))
    ∷ by M3 (row narrows 100 [] (0xE0000000 ∷ 0xC0000004 ∷ 0x0 ∷ []) (writes (0xE0000000 ∷ 0xC0000004 ∷ 0x0 ∷ [])))
    ∷ by (chain 4) (row narrows 100 [] (0xE0000000 ∷ 0xC0000004 ∷ 0x0 ∷ []) (refuses 8))
    -- S by M3, directly and in stages; a completion by another table, and by none, is promised nothing
    ∷ by M3 (row evaluates 100 (0x0 ∷ 0x14 ∷ []) sheet_s (writes (0xE0000002 ∷ 0x40054006 ∷ 0xC0000004 ∷ 0x0 ∷ [])))
    ∷ by M3 (row reduces 100 (0x0 ∷ 0x24 ∷ []) sheet_s (writes pending_s))
    ∷ by M3 (row completes 100 (0x0 ∷ 0x14 ∷ []) pending_s (writes (0xE0000002 ∷ 0x40064005 ∷ 0xC0000004 ∷ 0x0 ∷ [])))
    ∷ by M3 (row narrows 100 (0x0 ∷ 0x14 ∷ []) pending_s (writes (0xE0000002 ∷ 0x40064005 ∷ 0xC0000004 ∷ 0x0 ∷ [])))
    ∷ by C3 (row completes 100 (0x0 ∷ 0x14 ∷ []) pending_s (refuses 8))
    ∷ by none (row completes 100 (0x0 ∷ 0x14 ∷ []) pending_s (writes (0xE0000002 ∷ 0x40064005 ∷ 0xC0000003 ∷ 0x0 ∷ [])))
    -- and in sheet order
    ∷ by M3 (row reduces_in_order 100 (0x0 ∷ 0x24 ∷ []) sheet_s (writes (0xF0000001 ∷ 0x40060000 ∷ 0xA0000003 ∷ 0x80000001 ∷ 0x0 ∷ 0x20000005 ∷ 0xC0000002 ∷ 0x1 ∷ 0x60000 ∷ 0xC0000003 ∷ 0x0 ∷ [])))
    ∷ by M3 (row narrows_in_order 100 (0x0 ∷ 0x14 ∷ []) pending_s (writes (0xE0000002 ∷ 0x40064005 ∷ 0xC0000004 ∷ 0x0 ∷ [])))
    -- 21 before every other cause: 2, 3, 5 and 11, and 1 above; on a Resolved record too
    ∷ by xor (row evaluates 100 (replicate 257 0) (0x60000000 ∷ []) (refuses 21))
    ∷ by xor (row reduces 100 (0x3 ∷ []) (0x60000000 ∷ []) (refuses 21))
    ∷ by xor (row reduces_in_order 100 [] (0x0 ∷ []) (refuses 21))
    ∷ by xor (row evaluates 0 [] (0x60000000 ∷ []) (refuses 21))
    ∷ by xor (row completes 100 [] (0xE0000000 ∷ 0xC0000000 ∷ 0x0 ∷ []) (refuses 21))
    ∷ by xor (row narrows 100 [] (0xE0000000 ∷ 0xC0000000 ∷ 0x0 ∷ []) (refuses 21))
    ∷ by xor (row narrows_in_order 0 [] (0xE0000000 ∷ 0xC0000000 ∷ 0x0 ∷ []) (refuses 21))
    -- by a good one, the call's own answer
    ∷ by L2 (row evaluates 0 [] [] (refuses 1))
    ∷ by L2 (row evaluates 2 [] (0x60000000 ∷ []) (refuses 11))
    ∷ []

pub levels_hold : all_by levels ≡ true
unfolding accepts meet_of join_of outcome_count
levels_hold = refl

-- A call that is refused so changes no word.
pub unaccepted_kept : afterwards (evaluate xor 0 (0x60000000 ∷ []) [] 3) (1 ∷ 2 ∷ 3 ∷ []) ≡ 1 ∷ 2 ∷ 3 ∷ []
unfolding accepts
unaccepted_kept = refl

-- Every byte is to be a level. (Absorption asks it too, as what is no level absorbs.)
pub bytes_judged : map closed (record { levels = 1; bytes = 0 ∷ 0 ∷ [] } ∷ record { levels = 1; bytes = 0 ∷ 1 ∷ [] } ∷ []) ≡ true ∷ false ∷ []
bytes_judged = refl

-- Of two of which one is no level, the number of levels, which is none.
pub no_level : meet_of L2 0 2 ∷ meet_of L2 7 1 ∷ join_of L2 0 2 ∷ join_of L2 7 1 ∷ [] ≡ 2 ∷ 2 ∷ 2 ∷ 2 ∷ []
unfolding meet_of join_of
no_level = refl

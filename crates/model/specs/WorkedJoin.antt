-- Tables joined, worked through by computation: each sentence of request 2, and each pair of neighbouring causes.
use Rattle.std.specs.Prelude.{◌≡◌, refl, Bool, true, ◌&&◌, List, [], ◌∷◌, ℕ, replicate}
use Rattle.model.specs.Calls.{afterwards}
use Rattle.model.specs.Join.{join_tables}
use Rattle.model.specs.Worked.{Expected, refuses, writes, is_expected}

-- Two tables, the room of the output, and what the call must answer.
pub data JoinRow : Type 0 where
  join : List ℕ → List ℕ → ℕ → Expected → JoinRow

abbrev pub all_join : List JoinRow → Bool
all_join [] = true
all_join (join one two room e ∷ rows) = is_expected (join_tables one two room) e && all_join rows

abbrev pub joins : List JoinRow
joins =
    -- Unknown yields, on either side
    join (0x10 ∷ 0x80 ∷ []) (0x90 ∷ 0x40 ∷ []) 2 (writes (0x10 ∷ 0x40 ∷ []))
    ∷ join (0x99 ∷ []) (0x66 ∷ []) 3 (writes (0x55 ∷ []))
    -- equal readings stay, Unknown too
    ∷ join (0xAA ∷ []) (0xAA ∷ []) 1 (writes (0xAA ∷ []))
    ∷ join (0x52 ∷ []) (0x52 ∷ []) 1 (writes (0x52 ∷ []))
    -- past its end a table reads Absent: Unknown there becomes Absent, and the result has the longer length
    ∷ join (0xAA ∷ 0x80 ∷ []) (0x64 ∷ []) 2 (writes (0x64 ∷ 0x00 ∷ []))
    ∷ join (0x00 ∷ 0x00 ∷ []) [] 4 (writes (0x00 ∷ 0x00 ∷ []))
    ∷ join [] [] 0 (writes [])
    -- and Present there is a clash, in either table
    ∷ join (0x00 ∷ 0x10 ∷ []) (0x00 ∷ []) 2 (refuses 14)
    ∷ join [] (0x01 ∷ []) 1 (refuses 14)
    -- a clash in each place of a byte
    ∷ join (0x40 ∷ []) (0x00 ∷ []) 1 (refuses 14)
    ∷ join (0x00 ∷ []) (0x10 ∷ []) 1 (refuses 14)
    ∷ join (0x94 ∷ []) (0x90 ∷ []) 1 (refuses 14)
    ∷ join (0xA8 ∷ []) (0xA9 ∷ []) 1 (refuses 14)
    -- 256 bytes are a table
    ∷ join (replicate 256 0) [] 256 (writes (replicate 256 0))
    -- 2 in either before 3 in either
    ∷ join (0xFF ∷ []) (replicate 257 0) 0 (refuses 2)
    ∷ join (replicate 257 0) (0xFF ∷ []) 0 (refuses 2)
    -- 3 in either before 14, wherever it stands
    ∷ join (0x40 ∷ []) (0x03 ∷ []) 1 (refuses 3)
    ∷ join (0x03 ∷ []) (0x40 ∷ []) 1 (refuses 3)
    ∷ join (0x40 ∷ 0x00 ∷ []) (0x00 ∷ 0xC0 ∷ []) 2 (refuses 3)
    ∷ join (0xC0 ∷ []) (0xC0 ∷ []) 1 (refuses 3)
    -- 14 before 11, and 11 for a result longer than the output
    ∷ join (0x40 ∷ []) (0x00 ∷ []) 0 (refuses 14)
    ∷ join (0x40 ∷ []) (0x80 ∷ []) 0 (refuses 11)
    ∷ join (0x80 ∷ 0x80 ∷ []) (0x80 ∷ []) 1 (refuses 11)
    ∷ []

pub joins_hold : all_join joins ≡ true
joins_hold = refl

-- The output afterwards: none past the result changes, and none where the call is refused.
pub join_output : afterwards (join_tables (0x99 ∷ []) (0x66 ∷ []) 3) (1 ∷ 2 ∷ 3 ∷ []) ≡ 0x55 ∷ 2 ∷ 3 ∷ []
join_output = refl

pub join_output_absent : afterwards (join_tables (0xAA ∷ 0x80 ∷ []) (0x64 ∷ []) 3) (1 ∷ 2 ∷ 3 ∷ []) ≡ 0x64 ∷ 0x00 ∷ 3 ∷ []
join_output_absent = refl

pub join_output_kept : afterwards (join_tables (0x40 ∷ []) (0x00 ∷ []) 2) (1 ∷ 2 ∷ []) ≡ 1 ∷ 2 ∷ []
join_output_kept = refl

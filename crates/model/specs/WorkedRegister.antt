-- Registers worked through, by computation. Request 5.
use Rattle.std.specs.Prelude.{◌≡◌, refl, Bool, true, ◌&&◌, List, [], ◌∷◌, ◌++◌, ℕ, zero, suc, ◌+◌, eqb}
use Rattle.model.specs.Register.{InForce, sheet_in_force, number_of, value_of}

-- A register, the group and the day that are asked for, and what is returned: the number of the refusal or 0, and the value.
pub data Row : Type 0 where
  row : List ℕ → ℕ → ℕ → ℕ → ℕ → Row

abbrev pub returns : InForce → ℕ → ℕ → Bool
returns a number value = eqb (number_of a) number && eqb (value_of a) value

abbrev pub holds : Row → Bool
holds (row register group day number value) = returns (sheet_in_force register group day) number value

abbrev pub all_hold : List Row → Bool
all_hold [] = true
all_hold (r ∷ rs) = holds r && all_hold rs

-- Of group 1: sheet 7 from day 100, 9 and 3 from day 200, 12 withdrawn; of group 2 sheet 0 from day 0.
abbrev pub register : List ℕ
register = 0x01000007 ∷ 0x64 ∷ 0x01000009 ∷ 0xC8 ∷ 0x0180000C ∷ 0xFA ∷ 0x01000003 ∷ 0xC8 ∷ 0x02000000 ∷ 0 ∷ []

abbrev pub answered : List Row
answered =
    row register 1 99 0 0x10000
    ∷ row register 1 100 0 7
    ∷ row register 1 199 0 7
    ∷ row register 1 200 0 9
    ∷ row register 1 300 0 9
    ∷ row register 2 0 0 0
    ∷ row register 3 300 0 0x10000
    ∷ row register 257 300 0 0x10000
    -- the empty register
    ∷ row [] 1 5 0 0x10000
    -- days are unsigned
    ∷ row (0x01000007 ∷ 0xFFFFFFFF ∷ 0x01000008 ∷ 0x80000000 ∷ []) 1 0x80000000 0 8
    ∷ row (0x01000007 ∷ 0xFFFFFFFF ∷ 0x01000008 ∷ 0x80000000 ∷ []) 1 0xFFFFFFFF 0 7
    -- the order of the entries never matters: the later day, and on one day the greater number, first or last
    ∷ row (0x01000009 ∷ 0xC8 ∷ 0x01000007 ∷ 0x64 ∷ []) 1 300 0 9
    ∷ row (0x01000003 ∷ 0xC8 ∷ 0x01000009 ∷ 0xC8 ∷ []) 1 300 0 9
    ∷ row (0x01000009 ∷ 0xC8 ∷ 0x01000003 ∷ 0xC8 ∷ []) 1 300 0 9
    -- the later day goes before the greater number
    ∷ row (0x01000009 ∷ 0x64 ∷ 0x01000003 ∷ 0xC8 ∷ []) 1 300 0 3
    -- a withdrawn entry hides nothing
    ∷ row (0x01000007 ∷ 0 ∷ 0x01800009 ∷ 0 ∷ []) 1 5 0 7
    ∷ row (0x01800009 ∷ 0 ∷ []) 1 5 0 0x10000
    -- one number in two groups; the last group, the last number
    ∷ row (0x01000007 ∷ 0 ∷ 0x02000007 ∷ 9 ∷ []) 1 5 0 7
    ∷ row (0xFF00FFFF ∷ 0 ∷ []) 255 0 0 0xFFFF
    ∷ []

pub answered_hold : all_hold answered ≡ true
answered_hold = refl

-- ---- what is no register, whatever group is asked for
-- n entries of group 1.
abbrev pub entries : ℕ → List ℕ
entries zero = []
entries (suc n) = (0x01000000 + n) ∷ n ∷ entries n

abbrev pub refused : List Row
refused =
    row (0x01000007 ∷ []) 1 5 15 0
    ∷ row (register ++ 0x01000007 ∷ []) 9 0 15 0
    -- a zero field that isn't 0, its highest bit and its lowest
    ∷ row (0x01000007 ∷ 0 ∷ 0x02400008 ∷ 0 ∷ []) 1 5 15 0
    ∷ row (0x01010007 ∷ 0 ∷ []) 2 5 15 0
    -- one group and number twice: withdrawn, on different days, apart
    ∷ row (0x01000007 ∷ 0 ∷ 0x01000007 ∷ 0 ∷ []) 1 5 15 0
    ∷ row (0x01000007 ∷ 0 ∷ 0x01800007 ∷ 9 ∷ []) 1 5 15 0
    ∷ row (0x01800007 ∷ 0 ∷ 0x01800007 ∷ 9 ∷ []) 2 5 15 0
    ∷ row (0x01000007 ∷ 0 ∷ 0x02000007 ∷ 0 ∷ 0x01000007 ∷ 9 ∷ []) 2 5 15 0
    -- 512 words are a register, 513 and 514 are none
    ∷ row (entries 256) 1 0xFFFFFFFF 0 255
    ∷ row (entries 256 ++ 0 ∷ []) 1 5 15 0
    ∷ row (entries 257) 1 5 15 0
    ∷ []

pub refused_hold : all_hold refused ≡ true
refused_hold = refl

-- Cases of request 11, by computation: the tight form of sheets and records there and back, and what bad runs and bad words give.
use Rattle.std.specs.Prelude.{◌≡◌, refl, Bool, true, false, ◌&&◌, List, [], ◌∷◌, ◌++◌, ℕ, ◌-◌, replicate, length}
use Rattle.model.specs.Calls.{Answer, refusal, wrote, afterwards}
use Rattle.model.specs.Worked.{is_expected, refuses, writes, same_list}
use Rattle.model.specs.Products.{pack_sheet, pack_record, unpack_sheet, unpack_record}

-- The words are packed as the bytes, and the bytes unpacked as the words; with just enough room, and refused with one less.
abbrev there : (List ℕ → ℕ → Answer) → (List ℕ → ℕ → Answer) → List ℕ → List ℕ → Bool
there pack unpack ws bs =
    is_expected (pack ws (length bs)) (writes bs)
    && is_expected (unpack bs (length ws)) (writes ws)
    && is_expected (pack ws (length bs - 1)) (refuses 11)
    && is_expected (unpack bs (length ws - 1)) (refuses 11)

abbrev there_sheet : List ℕ → List ℕ → Bool
there_sheet = there pack_sheet unpack_sheet

abbrev there_record : List ℕ → List ℕ → Bool
there_record = there pack_record unpack_record

abbrev bad : (List ℕ → ℕ → Answer) → List ℕ → ℕ → Bool
bad call given n = is_expected (call given 70000) (refuses n)

abbrev bad_sheet : List ℕ → ℕ → Bool
bad_sheet = bad unpack_sheet

abbrev bad_record : List ℕ → ℕ → Bool
bad_record = bad unpack_record

abbrev bad_words : List ℕ → ℕ → Bool
bad_words = bad pack_sheet

abbrev bad_record_words : List ℕ → ℕ → Bool
bad_record_words = bad pack_record

pub both_ways_lem :
    (there_sheet (0x60000001 ∷ []) (0x60 ∷ 0x0 ∷ 0x10 ∷ [])
    && there_sheet (0x70000000 ∷ []) (0x70 ∷ [])
    && there_sheet (0x90000000 ∷ []) (0x90 ∷ 0x0 ∷ [])
    && there_sheet (0x88000003 ∷ 0x0 ∷ 0x20000005 ∷ []) (0x88 ∷ 0x0 ∷ 0x0 ∷ 0x30 ∷ 0x80 ∷ 0x50 ∷ [])
    && there_sheet (0x80300001 ∷ 0x80078001 ∷ 0x7073F00 ∷ 0x0 ∷ []) (0x80 ∷ 0x30 ∷ 0x0 ∷ 0x18 ∷ 0x0 ∷ 0x78 ∷ 0x0 ∷ 0x11 ∷ 0xC7 ∷ 0xFC ∷ 0x0 ∷ [])
    && there_sheet (0x90000002 ∷ 0x80100001 ∷ 0x0 ∷ 0x7000000 ∷ 0x20000005 ∷ 0x60000001 ∷ []) (0x90 ∷ 0x2 ∷ 0x80 ∷ 0x10 ∷ 0x0 ∷ 0x10 ∷ 0x72 ∷ 0x1 ∷ 0x58 ∷ 0x0 ∷ 0x4 ∷ [])
    && there_sheet (0xB0000000 ∷ 0x80000001 ∷ 0x0 ∷ 0x40000002 ∷ 0x30000000 ∷ 0x20000000 ∷ 0x200003FF ∷ 0x70000000 ∷ []) (0xB8 ∷ 0x0 ∷ 0x0 ∷ 0x1 ∷ 0x10 ∷ 0x0 ∷ 0x8C ∷ 0x80 ∷ 0x2 ∷ 0xFF ∷ 0xDC ∷ [])
    && there_record (0xE0000000 ∷ 0xC0000001 ∷ 0x0 ∷ []) (0xE0 ∷ 0x0 ∷ 0x0 ∷ 0x0 ∷ 0xC0 ∷ 0x0 ∷ 0x0 ∷ 0x20 ∷ 0x0 ∷ [])
    && there_record (0xE0007001 ∷ 0x40050000 ∷ 0xC0000003 ∷ 0x1 ∷ 0x50000 ∷ []) (0xE0 ∷ 0x0 ∷ 0x70 ∷ 0x1 ∷ 0x40 ∷ 0x5C ∷ 0x0 ∷ 0x0 ∷ 0x6 ∷ 0x0 ∷ 0x10 ∷ 0x14 ∷ [])
    && there_record (0xE0000001 ∷ 0xC0050000 ∷ 0xDC000003 ∷ 0x0 ∷ 0x1 ∷ 0x50000 ∷ []) (0xE0 ∷ 0x0 ∷ 0x0 ∷ 0x1 ∷ 0xC0 ∷ 0x5D ∷ 0xC0 ∷ 0x0 ∷ 0xC0 ∷ 0x1 ∷ 0x1 ∷ 0x40 ∷ [])
    && there_record (0xF0000000 ∷ 0x88000003 ∷ 0x0 ∷ 0x20000005 ∷ []) (0xF0 ∷ 0x0 ∷ 0x0 ∷ 0x0 ∷ 0x88 ∷ 0x0 ∷ 0x0 ∷ 0x30 ∷ 0x80 ∷ 0x50 ∷ [])
    && there_record (0xF0000000 ∷ 0x70000000 ∷ []) (0xF0 ∷ 0x0 ∷ 0x0 ∷ 0x0 ∷ 0x70 ∷ [])
    && there_record (0xE0000000 ∷ 0xC020FFFF ∷ 0x80040002 ∷ 0x7070000 ∷ 0x503FF ∷ []) (0xE0 ∷ 0x0 ∷ 0x0 ∷ 0x0 ∷ 0xC0 ∷ 0x5F ∷ 0xFF ∷ 0xF0 ∷ 0x0 ∷ 0x80 ∷ 0x4 ∷ 0x38 ∷ 0xE0 ∷ 0x2F ∷ 0xFE ∷ [])
    && there_record (0xE0000000 ∷ 0xD8000000 ∷ 0x8009 ∷ 0x1 ∷ 0x50000 ∷ []) (0xE0 ∷ 0x0 ∷ 0x0 ∷ 0x0 ∷ 0xD9 ∷ 0x0 ∷ 0x12 ∷ 0x0 ∷ 0x20 ∷ 0x28 ∷ []))
    ≡ true
both_ways_lem = refl

-- Unpacking.
pub turned_back_lem :
    (bad_sheet [] 19
    && bad_sheet (0x84 ∷ []) 19
    && bad_sheet (0x84 ∷ 0x0 ∷ []) 19
    && bad_sheet (0x84 ∷ 0x10 ∷ []) 8
    && bad_sheet (0x50 ∷ []) 5
    && bad_sheet (0xC0 ∷ []) 5
    && bad_sheet (0x71 ∷ []) 20
    && bad_sheet (0x70 ∷ 0x0 ∷ []) 20
    && bad_sheet (0x78 ∷ 0x0 ∷ []) 20
    && bad_sheet (0x60 ∷ 0x0 ∷ 0x11 ∷ []) 20
    && bad_sheet (0x60 ∷ 0x0 ∷ []) 19
    && bad_sheet (0xA0 ∷ 0x1 ∷ []) 19
    && bad_record [] 19
    && bad_record (0xD0 ∷ []) 5
    && bad_record (0xE0 ∷ []) 19
    && bad_record (0xE0 ∷ 0x0 ∷ 0x0 ∷ 0x0 ∷ 0x70 ∷ []) 5
    && bad_sheet (0x80 ∷ 0x0 ∷ 0x0 ∷ 0x10 ∷ 0xCC ∷ 0xCC ∷ 0xCC ∷ 0xCC ∷ 0xCC ∷ 0xCC ∷ 0xCC ∷ 0xCC ∷ 0xCC ∷ 0xCC ∷ 0xCC ∷ 0xCC ∷ 0xCC ∷ 0xCC ∷ 0xCC ∷ 0xC4 ∷ []) 7
    && bad_sheet (0x80 ∷ 0x0 ∷ 0x0 ∷ 0x10 ∷ 0xCC ∷ 0xCC ∷ 0xCC ∷ 0xCC ∷ 0xCC ∷ 0xCC ∷ 0xCC ∷ 0xCC ∷ 0xCC ∷ 0xCC ∷ 0xCC ∷ 0xCC ∷ 0xCC ∷ 0xCC ∷ 0xCC ∷ []) 19
    && bad_sheet (0x80 ∷ 0x0 ∷ 0x0 ∷ 0x10 ∷ 0xCC ∷ 0xCC ∷ 0xCC ∷ 0xCC ∷ 0xCC ∷ 0xCC ∷ 0xCC ∷ 0xCC ∷ 0xCC ∷ 0xCC ∷ 0xCC ∷ 0xCC ∷ 0xCC ∷ 0xCC ∷ 0xCC ∷ 0xD8 ∷ []) 5)
    ≡ true
turned_back_lem = refl

-- Packing: as the reader of words judges.
pub words_turned_back :
    (bad_words [] 1
    && bad_words (0x84100001 ∷ []) 8
    && bad_words (0x70000001 ∷ []) 8
    && bad_words (0x80200001 ∷ 0x0 ∷ 0x7080001 ∷ 0x0 ∷ []) 8
    && bad_words (0x70000000 ∷ 0x0 ∷ []) 10
    && bad_words (0x90000001 ∷ []) 6
    && bad_record_words (0xE0000000 ∷ 0xD0000001 ∷ 0x0 ∷ 0x0 ∷ []) 8
    && bad_record_words (0xE0000001 ∷ 0x44050000 ∷ 0xC0000003 ∷ 0x1 ∷ 0x50000 ∷ []) 8)
    ≡ true
words_turned_back = refl

-- Room, of which 11 tells after 20; and what stands after the result.
pub room :
    (is_expected (pack_sheet (0x60000001 ∷ []) 2) (refuses 11)
    && is_expected (unpack_sheet (0x60 ∷ 0x0 ∷ 0x10 ∷ []) 0) (refuses 11)
    && is_expected (unpack_sheet (0x71 ∷ []) 0) (refuses 20)
    && same_list (afterwards (unpack_sheet (0x60 ∷ 0x0 ∷ 0x10 ∷ []) 3) (1 ∷ 2 ∷ 3 ∷ [])) (0x60000001 ∷ 2 ∷ 3 ∷ [])
    && same_list (afterwards (pack_sheet (0x70000000 ∷ []) 3) (1 ∷ 2 ∷ 3 ∷ [])) (0x70 ∷ 2 ∷ 3 ∷ []))
    ≡ true
room = refl

-- A PermitWithTrace with 65 obligations: 58 bytes with the lead, and its record comes back. In a Grant their count gives 8.
abbrev held65 : List ℕ
held65 = 0xE0000000 ∷ 0xC4100001 ∷ 0x0 ∷ (replicate 16 0x07070707 ++ 0x07000000 ∷ [])

abbrev again : Answer → List ℕ → Bool
again (refusal n) ws = false
again (wrote bs) ws = is_expected (unpack_record bs 100) (writes ws) && same_list (length bs ∷ []) (58 ∷ [])

pub sixty_five : again (pack_record held65 100) held65 ≡ true
sixty_five = refl

-- Rows of request 11 on the longest sheets and runs, apart from the others since they take long to compute.
use Rattle.std.specs.Prelude.{◌≡◌, refl, Bool, true, false, ◌&&◌, List, [], ◌∷◌, ◌++◌, ℕ, leb, length, replicate}
use Rattle.std.proofs.Common.{arith}
use borrow.Author.Tests.{le-leb}
use Rattle.model.specs.Outcome.{product_sets}
use Rattle.model.specs.Worked.{is_expected, refuses, writes}
use Rattle.model.specs.Reading.{refuse, levels}
use Rattle.model.specs.Bits.{bits_of, run_of}
use Rattle.model.specs.Tight.{loose, filled, tight_bytes}
use Rattle.model.specs.Products.{unpack_sheet}

both : (a b : Bool) → a ≡ true → b ≡ true → (a && b) ≡ true
both true b e h = h
both false b e h = e

longest_sheet : is_expected (unpack_sheet (0x9F ∷ 0xFF ∷ (replicate 2047 0x77 ++ 0x70 ∷ [])) 4096) (writes (0x90000FFF ∷ replicate 4095 0x70000000)) ≡ true
longest_sheet = refl

a_word_more : is_expected (unpack_sheet (0xB7 ∷ 0x9F ∷ 0xFF ∷ (replicate 2047 0x77 ++ 0x70 ∷ [])) 5000) (refuses 11) ≡ true
a_word_more = refl

a_word_more_and_a_byte : is_expected (unpack_sheet (0xB7 ∷ 0x9F ∷ 0xFF ∷ (replicate 2047 0x77 ++ 0x70 ∷ 0x0 ∷ [])) 5000) (refuses 20) ≡ true
a_word_more_and_a_byte = refl

longer_than_any_run : is_expected (unpack_sheet (replicate 65537 0) 5000) (refuses 1) ≡ true
longer_than_any_run = refl

-- A run that begins with a byte 0: kind 0 stands first.
no_kind : (bs : List ℕ) → filled (loose product_sets.value false levels (bits_of 8 0 ++ bs)) ≡ refuse 5
no_kind bs =
    let fits : leb 4 (length (bits_of 8 0 ++ bs)) ≡ true = le-leb _ _ (omega arith) in
    rw fits refl

zero_first : (bs : List ℕ) → leb (length (0 ∷ bs)) tight_bytes ≡ true → is_expected (unpack_sheet (0 ∷ bs) 5000) (refuses 5) ≡ true
zero_first bs e = rw (e, no_kind (run_of bs)) refl

longest_run : is_expected (unpack_sheet (replicate 65536 0) 5000) (refuses 5) ≡ true
longest_run = zero_first (replicate 65535 0) refl

-- 4,096 words pass; with one word more 11, and 20 if a byte follows. 11 comes last.
pub limits :
    (is_expected (unpack_sheet (0x9F ∷ 0xFF ∷ (replicate 2047 0x77 ++ 0x70 ∷ [])) 4096) (writes (0x90000FFF ∷ replicate 4095 0x70000000))
    && is_expected (unpack_sheet (0xB7 ∷ 0x9F ∷ 0xFF ∷ (replicate 2047 0x77 ++ 0x70 ∷ [])) 5000) (refuses 11)
    && is_expected (unpack_sheet (0xB7 ∷ 0x9F ∷ 0xFF ∷ (replicate 2047 0x77 ++ 0x70 ∷ 0x0 ∷ [])) 5000) (refuses 20)
    && is_expected (unpack_sheet (replicate 65537 0) 5000) (refuses 1)
    && is_expected (unpack_sheet (replicate 65536 0) 5000) (refuses 5))
    ≡ true
limits = both _ _ (both _ _ (both _ _ (both _ _ longest_sheet a_word_more) a_word_more_and_a_byte) longer_than_any_run) longest_run

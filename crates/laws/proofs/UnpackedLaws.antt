-- Lists of fields packed into words of n fields each, and the fields of such words, for fields of any width: each way back. A table is such a list,
-- of four 2-bit fields a byte.
use Rattle.std.specs.Prelude.{◌≡◌, refl, List, [], ◌∷◌, ◌++◌, ℕ, zero, suc, ◌+◌, ◌*◌, ◌%◌, ◌^◌, ◌≤◌, ◌<◌, length, drop}
use Rattle.std.proofs.Common.{sym, ◌∙◌, ap, ap₂, suc-mul, mod-lt, zero-mul, arith, pow_pos, length-append, length-drop, drop_at}
use Rattle.model.specs.Fields.{split, joined, packed}
use Rattle.model.specs.Facts.{table_fields}
use Rattle.laws.specs.FieldAt.{padded, unpacked, Narrow}
use Rattle.laws.proofs.WordLaws.{narrow_drop, split_joined, joined_split, length_split}
use Rattle.laws.proofs.ShiftLaws.{digits_high}

none_left : (vs : List ℕ) → length vs ≡ 0 → [] ≡ vs
none_left [] h = refl
none_left (v ∷ vs) h = absurd (omega arith)

-- The first n fields, and those after them.
padded_drop : (n : ℕ) (vs : List ℕ) → n ≤ length vs → padded n vs ++ drop n vs ≡ vs
padded_drop zero vs h = refl
padded_drop (suc n) [] h = absurd (omega arith)
padded_drop (suc n) (v ∷ vs) h = ap (λ l. v ∷ l) (padded_drop n vs (omega arith))

module _ (width : ℕ) where
  -- What was packed is read back.
  pub unpacked_packed : (n m : ℕ) (vs : List ℕ) → Narrow width vs → length vs ≡ m * n → unpacked width n (packed width n m vs) ≡ vs
  unpacked_packed n zero vs h e = none_left vs (e ∙ zero-mul n)
  unpacked_packed n (suc m) vs h e =
      let all : length vs ≡ m * n + n = e ∙ suc-mul m n in
      ap₂ (λ x y. x ++ y) (split_joined width n vs h) (unpacked_packed n m (drop n vs) (narrow_drop width n vs h) (length-drop n vs ∙ omega arith))
      ∙ padded_drop n vs (omega arith)

  -- What was read packs to the same words.
  joined_first : (n : ℕ) (us vs : List ℕ) → n ≤ length us → joined width n (us ++ vs) ≡ joined width n us
  joined_first zero us vs h = refl
  joined_first (suc n) [] vs h = absurd (omega arith)
  joined_first (suc n) (u ∷ us) vs h = ap (λ x. u * 2 ^ (width * n) + x) (joined_first n us vs (omega arith))

  pub packed_unpacked : (n : ℕ) (ws : List ℕ) → packed width (suc n) (length ws) (unpacked width (suc n) ws) ≡ ws
  packed_unpacked n [] = refl
  packed_unpacked n (w ∷ ws) =
      let few = length_split width (suc n) w in
      ap₂ (λ x l. x ∷ packed width (suc n) (length ws) l)
      (joined_first (suc n) (split width (suc n) w) (unpacked width (suc n) ws) (omega arith) ∙ joined_split width n w)
      (drop_at (split width (suc n) w) (unpacked width (suc n) ws) (suc n) few)
      ∙ ap (λ l. w ∷ l) (packed_unpacked n ws)

  pub length_unpacked : (n : ℕ) (ws : List ℕ) → length (unpacked width n ws) ≡ length ws * n
  length_unpacked n [] = sym (zero-mul n)
  length_unpacked n (w ∷ ws) =
      omega (arith, length-append (split width n w) (unpacked width n ws), length_split width n w, length_unpacked n ws, suc-mul (length ws) n)

  -- The fields of words that have no bit above them fit the width.
  narrow_split : (n w : ℕ) (vs : List ℕ) → w < 2 ^ (width * n) → Narrow width vs → Narrow width (split width n w ++ vs)
  narrow_split zero w vs h k = k
  narrow_split (suc n) w vs h k = (digits_high width n w h, narrow_split n (w % 2 ^ (width * n)) vs (mod-lt w (pow_pos (width * n))) k)

  pub narrow_unpacked : (n : ℕ) (ws : List ℕ) → Narrow (width * n) ws → Narrow width (unpacked width n ws)
  narrow_unpacked n [] h = tt
  narrow_unpacked n (w ∷ ws) h = narrow_split n w (unpacked width n ws) h.0 (narrow_unpacked n ws h.1)

-- ---- a table
pub table_unpacked : (bs : List ℕ) → table_fields bs ≡ unpacked 2 4 bs
table_unpacked [] = refl
table_unpacked (b ∷ bs) = ap (λ l. split 2 4 b ++ l) (table_unpacked bs)

pub fields_packed : (n : ℕ) (qs : List ℕ) → Narrow 2 qs → length qs ≡ n * 4 → table_fields (packed 2 4 n qs) ≡ qs
fields_packed n qs h e = table_unpacked (packed 2 4 n qs) ∙ unpacked_packed 2 4 n qs h e

pub packed_fields : (bs : List ℕ) → packed 2 4 (length bs) (table_fields bs) ≡ bs
packed_fields bs = ap (packed 2 4 (length bs)) (table_unpacked bs) ∙ packed_unpacked 2 3 bs

pub length_fields : (bs : List ℕ) → length (table_fields bs) ≡ length bs * 4
length_fields bs = ap length (table_unpacked bs) ∙ length_unpacked 2 4 bs

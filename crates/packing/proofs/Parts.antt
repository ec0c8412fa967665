-- The words that each turn of a loop stores. Assumes nothing.
use mathlib.Core.Path.{◌≡◌, sym, ◌∙◌, ap, ap₂}
use mathlib.Core.List.{List, [], ◌∷◌}
use Prim.Native.Nat.{ℕ, suc, ◌+◌, ◌-◌, ◌*◌, ◌/◌, ◌%◌, ◌≤◌, ◌<◌}
use native.Mathlib.Numerals.{add-one}
use native.Mathlib.Omega.{arith}
use lib.ListN.{length, get_or, get_or-eq_default}
use Rattle.model.specs.Fields.{joined, words_for, pack}
use Rattle.model.specs.Writing.{obligation_bits, entry_bits}
use Rattle.packing.specs.PackedLaws.{list_word}

-- ---- two fields a word
module _ (vs : List ℕ) where
  pub entries_full : (j : ℕ) → j < length vs / 2 → joined entry_bits 2 (get_or vs (j * 2) 0 ∷ get_or vs (j * 2 + 1) 0 ∷ []) ≡ get_or (pack entry_bits vs) j 0
  entries_full j k = ap (λ i. joined entry_bits 2 (get_or vs (j * 2) 0 ∷ get_or vs i 0 ∷ [])) (add-one (j * 2)) ∙ sym (list_word entry_bits j vs (omega arith))

  pub entries_last : (length vs % 2 ≡ 0 → ⊥) → joined entry_bits 2 (get_or vs (length vs - 1) 0 ∷ 0 ∷ []) ≡ get_or (pack entry_bits vs) (length vs / 2) 0
  entries_last k =
      let j = length vs / 2 in
      let last : length vs - 1 ≡ j * 2 = omega arith in
      ap₂ (λ x y. joined entry_bits 2 (x ∷ y ∷ [])) (ap (λ i. get_or vs i 0) last) (sym (get_or-eq_default vs 0 (let z : length vs ≤ suc (j * 2) = omega arith in z)))
      ∙ sym (list_word entry_bits j vs (omega arith))

  -- ---- four fields a word
  pub obligations_word : (j : ℕ) {a b c d w : ℕ} → j < words_for 4 (length vs) →
      a ≡ get_or vs (j * 4) 0 → b ≡ get_or vs (j * 4 + 1) 0 → c ≡ get_or vs (j * 4 + 2) 0 → d ≡ get_or vs (j * 4 + 3) 0 →
      w ≡ joined obligation_bits 4 (a ∷ b ∷ c ∷ d ∷ []) → w ≡ get_or (pack obligation_bits vs) j 0
  obligations_word j k ea eb ec ed e =
      let one : j * 4 + 1 ≡ suc (j * 4) = omega arith in
      let two : j * 4 + 2 ≡ suc (suc (j * 4)) = omega arith in
      let three : j * 4 + 3 ≡ suc (suc (suc (j * 4))) = omega arith in
      e ∙ rw (ea, eb, ec, ed, one, two, three) (sym (list_word obligation_bits j vs k))

-- Packed lists word by word, for fields of any width, n a word: what a writer needs.
use Rattle.std.specs.Prelude.{◌≡◌, refl, List, [], ◌∷◌, ℕ, zero, suc, ◌+◌, ◌*◌, ◌^◌, ◌<◌, length, drop, get_or}
use Rattle.std.proofs.Common.{sym, ◌∙◌, ap, arith}
use Rattle.model.specs.Fields.{joined, words_for, per_word, pack}
use Rattle.laws.proofs.FieldAtLaws.{packed_word}
use Rattle.laws.proofs.Lengths.{length_pack}
use Rattle.packing.specs.Packed.{values_from}

values_of_nothing : (n k : ℕ) → values_from [] k n ≡ values_from [] 0 n
values_of_nothing zero k = refl
values_of_nothing (suc n) k = ap (λ l. 0 ∷ l) (values_of_nothing n (suc k) ∙ sym (values_of_nothing n 1))

values_tail : (n k : ℕ) (v : ℕ) (vs : List ℕ) → values_from (v ∷ vs) (suc k) n ≡ values_from vs k n
values_tail zero k v vs = refl
values_tail (suc n) k v vs = ap (λ l. get_or vs k 0 ∷ l) (values_tail n (suc k) v vs)

values_drop : (n k : ℕ) (vs : List ℕ) → values_from (drop k vs) 0 n ≡ values_from vs k n
values_drop n zero vs = refl
values_drop n (suc k) [] = sym (values_of_nothing n (suc k))
values_drop n (suc k) (v ∷ vs) = values_drop n k vs ∙ sym (values_tail n k v vs)

module _ (width : ℕ) where
  joined_nothing : (n : ℕ) → joined width n (values_from [] 0 n) ≡ 0
  joined_nothing zero = refl
  joined_nothing (suc n) = ap (λ l. 0 * 2 ^ (width * n) + joined width n l) (values_of_nothing n 1) ∙ ap (λ x. 0 * 2 ^ (width * n) + x) (joined_nothing n) ∙ omega arith

  joined_front : (n : ℕ) (vs : List ℕ) → joined width n vs ≡ joined width n (values_from vs 0 n)
  joined_front zero vs = refl
  joined_front (suc n) [] = sym (joined_nothing (suc n))
  joined_front (suc n) (v ∷ vs) = ap (λ x. v * 2 ^ (width * n) + x) (joined_front n vs ∙ ap (joined width n) (sym (values_tail n 0 v vs)))

  -- A word by its fields, 0 where the list has ended.
  joined_values : (n k : ℕ) (vs : List ℕ) → joined width n (drop k vs) ≡ joined width n (values_from vs k n)
  joined_values n k vs = joined_front n (drop k vs) ∙ ap (joined width n) (values_drop n k vs)

  abbrev n : ℕ
  n = per_word width

  -- The words of a list: how many, and word j.
  pub packed_number : (vs : List ℕ) → length (pack width vs) ≡ words_for n (length vs)
  packed_number vs = length_pack width vs

  pub list_word : (j : ℕ) (vs : List ℕ) → j < words_for n (length vs) → get_or (pack width vs) j 0 ≡ joined width n (values_from vs (j * n) n)
  list_word j vs k = packed_word width n (words_for n (length vs)) j vs k ∙ joined_values n (j * n) vs

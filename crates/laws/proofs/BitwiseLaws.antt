-- The fields of what `and`, `or` and `xor` make of two words, for fields of any width: field by field.
use Rattle.std.specs.Prelude.{◌≡◌, refl, ◌∷◌, ℕ, zero, suc, ◌*◌, ◌/◌, ◌%◌, ◌^◌}
use Rattle.std.proofs.Common.{◌∙◌, ap₂}
use Rattle.std.specs.Int.Bits.{bit_and, bit_or, bit_xor}
use Rattle.std.proofs.lemmas.Nat.{and_shr, or_shr, xor_shr, and_mod, or_mod, xor_mod}
use Rattle.model.specs.Fields.{split}
use Rattle.laws.specs.FieldAt.{fieldwise}

-- An operation that shifts and remainders pass through.
module _ (f : ℕ → ℕ → ℕ)
    (shifted : (a b k : ℕ) → f a b / 2 ^ k ≡ f (a / 2 ^ k) (b / 2 ^ k))
    (kept : (a b k : ℕ) → f a b % 2 ^ k ≡ f (a % 2 ^ k) (b % 2 ^ k)) where
  split_by : (width n a b : ℕ) → split width n (f a b) ≡ fieldwise f (split width n a) (split width n b)
  split_by width zero a b = refl
  split_by width (suc n) a b =
      let k = width * n in
      ap₂ (λ x y. x ∷ split width n y) (shifted a b k) (kept a b k)
      ∙ ap₂ ◌∷◌ refl (split_by width n (a % 2 ^ k) (b % 2 ^ k))

pub split_and : (width n a b : ℕ) → split width n (bit_and a b) ≡ fieldwise bit_and (split width n a) (split width n b)
split_and = split_by bit_and and_shr and_mod

pub split_or : (width n a b : ℕ) → split width n (bit_or a b) ≡ fieldwise bit_or (split width n a) (split width n b)
split_or = split_by bit_or or_shr or_mod

pub split_xor : (width n a b : ℕ) → split width n (bit_xor a b) ≡ fieldwise bit_xor (split width n a) (split width n b)
split_xor = split_by bit_xor xor_shr xor_mod

-- Fields of any width in a word: what is joined is split again, and what is split joins to the same word.
use Rattle.std.specs.Prelude.{◌≡◌, refl, List, [], ◌∷◌, ℕ, zero, suc, ◌+◌, ◌-◌, ◌*◌, ◌/◌, ◌%◌, ◌^◌, ◌≤◌, ◌<◌, length, drop, get_or}
use Rattle.std.proofs.Common.{sym, ◌∙◌, ap, ap₂, mul-zero, mul-suc, mul-le-mul_right, mod-eq_of_lt, mod-lt, div-add-mod', add-zero, add_comm, suc-mul, arith, pow_pos, pow-add}
use Rattle.std.proofs.Math.Nat.{mul-add-div_right, mul-add-mod_self_right, div-eq_of_lt, zero-div, zero-mod, add-div_right, div-eq_of_lt-le}
use Rattle.model.specs.Fields.{split, joined, packed, words_for}
use Rattle.laws.specs.FieldAt.{padded, Narrow}

-- ---- how many words
pub words_for_none : (n : ℕ) → words_for (suc n) 0 ≡ 0
words_for_none n = div-eq_of_lt {n = 0 + (suc n - 1)} {m = suc n} (omega arith)

words_more : (n k : ℕ) → n ≤ k → words_for (suc n) (suc k) ≡ suc (words_for (suc n) (k - n))
words_more n k h =
    let e : suc k + (suc n - 1) ≡ (k - n + (suc n - 1)) + suc n = omega arith in
    ap (λ x. x / suc n) e ∙ add-div_right (k - n + (suc n - 1)) {k = suc n} (omega arith) ∙ omega arith

words_last : (n k : ℕ) → k ≤ n → words_for (suc n) (suc k) ≡ 1
words_last n k h = div-eq_of_lt-le {k = 1} (suc n) {m = suc k + (suc n - 1)} (omega arith) (omega arith)

pub split_le : (n k : ℕ) {X : Type 0} → (n ≤ k → X) → (k < n → X) → X
split_le n zero {X} f g = zero_case n f g
  where
    zero_case : (m : ℕ) → (m ≤ 0 → X) → (0 < m → X) → X
    zero_case zero p q = p (omega arith)
    zero_case (suc m) p q = q (omega arith)
split_le zero (suc k) f g = f (omega arith)
split_le (suc n) (suc k) f g = split_le n k (λ h. f (omega arith)) (λ h. g (omega arith))

pub words_for_more : (n k : ℕ) → words_for (suc n) (suc k) ≡ suc (words_for (suc n) (k - n))
words_for_more n k =
    split_le n k (words_more n k)
    (λ h. words_last n k (omega arith) ∙ ap suc (sym (ap (words_for (suc n)) (let z : k - n ≡ 0 = omega arith in z) ∙ words_for_none n)))

-- ---- one word
pub padded_none : (n k : ℕ) → get_or (padded n []) k 0 ≡ 0
padded_none zero k = refl
padded_none (suc n) zero = refl
padded_none (suc n) (suc k) = padded_none n k

pub narrow_drop : (width n : ℕ) (vs : List ℕ) → Narrow width vs → Narrow width (drop n vs)
narrow_drop width zero vs h = h
narrow_drop width (suc n) [] h = h
narrow_drop width (suc n) (v ∷ vs) h = narrow_drop width n vs h.1

pub narrow_known : (width : ℕ) (vs : List ℕ) → ((i : ℕ) → get_or vs i 0 < 2 ^ width) → Narrow width vs
narrow_known width [] f = tt
narrow_known width (v ∷ vs) f = (f 0, narrow_known width vs (λ i. f (suc i)))

joined_nil : (width n : ℕ) → joined width n [] ≡ 0
joined_nil width zero = refl
joined_nil width (suc n) = refl

module _ (width : ℕ) where
  pub joined_small : (n : ℕ) (vs : List ℕ) → Narrow width vs → joined width n vs < 2 ^ (width * n)
  joined_small zero vs h = pow_pos (width * 0)
  joined_small (suc n) [] h = pow_pos (width * suc n)
  joined_small (suc n) (v ∷ vs) h =
      let b = 2 ^ (width * n) in
      let low : joined width n vs < b = joined_small n vs h.1 in
      let top : suc v * b ≤ 2 ^ width * b = mul-le-mul_right b (let k : v < 2 ^ width = h.0 in omega arith) in
      let e : 2 ^ (width * suc n) ≡ 2 ^ width * b = ap (λ x. 2 ^ x) (mul-suc width n ∙ add_comm (width * n) width) ∙ pow-add 2 width (width * n) in
      let s : suc v * b ≡ b + v * b = suc-mul v b ∙ add_comm (v * b) b in
      omega arith

  pub split_nil : (n : ℕ) → split width n 0 ≡ padded n []
  split_nil zero = refl
  split_nil (suc n) = ap₂ (λ x y. x ∷ split width n y) (zero-div (2 ^ (width * n))) (zero-mod (2 ^ (width * n))) ∙ ap (λ l. 0 ∷ l) (split_nil n)

  -- What was joined is split again.
  pub split_joined : (n : ℕ) (vs : List ℕ) → Narrow width vs → split width n (joined width n vs) ≡ padded n vs
  split_joined zero vs h = refl
  split_joined (suc n) [] h = split_nil (suc n)
  split_joined (suc n) (v ∷ vs) h =
      let b = 2 ^ (width * n) in
      let j = joined width n vs in
      let low : j < b = joined_small n vs h.1 in
      let top : (v * b + j) / b ≡ v = mul-add-div_right {m = b} (pow_pos (width * n)) v j ∙ ap (λ x. v + x) (div-eq_of_lt low) ∙ add-zero v in
      let bottom : (v * b + j) % b ≡ j = mul-add-mod_self_right v b j ∙ mod-eq_of_lt low in
      ap₂ (λ x y. x ∷ split width n y) top bottom ∙ ap (λ l. v ∷ l) (split_joined n vs h.1)

  -- What was split joins to the same word.
  joined_split_below : (n w : ℕ) → w < 2 ^ (width * n) → joined width n (split width n w) ≡ w
  joined_split_below zero w h = let e : 2 ^ (width * 0) ≡ 1 = ap (λ x. 2 ^ x) (mul-zero width) in omega arith
  joined_split_below (suc n) w h = ap (λ x. w / 2 ^ (width * n) * 2 ^ (width * n) + x) (joined_split_below n (w % 2 ^ (width * n)) (mod-lt w (pow_pos (width * n)))) ∙ div-add-mod' w (2 ^ (width * n))

  pub joined_split : (n w : ℕ) → joined width (suc n) (split width (suc n) w) ≡ w
  joined_split n w = ap (λ x. w / 2 ^ (width * n) * 2 ^ (width * n) + x) (joined_split_below n (w % 2 ^ (width * n)) (mod-lt w (pow_pos (width * n)))) ∙ div-add-mod' w (2 ^ (width * n))

  pub joined_padded : (n : ℕ) (vs : List ℕ) → joined width n (padded n vs) ≡ joined width n vs
  joined_padded zero vs = refl
  joined_padded (suc n) [] = ap (λ x. 0 * 2 ^ (width * n) + x) (joined_padded n [] ∙ joined_nil width n) ∙ omega arith
  joined_padded (suc n) (v ∷ vs) = ap (λ x. v * 2 ^ (width * n) + x) (joined_padded n vs)

pub length_split : (width n w : ℕ) → length (split width n w) ≡ n
length_split width zero w = refl
length_split width (suc n) w = ap suc (length_split width n (w % 2 ^ (width * n)))

pub length_packed : (width n m : ℕ) (vs : List ℕ) → length (packed width n m vs) ≡ m
length_packed width n zero vs = refl
length_packed width n (suc m) vs = ap suc (length_packed width n m (drop n vs))

-- A pair of entries and four obligations as one field, as they are computed. Assumes nothing.
use Rattle.std.specs.Prelude.{◌≡◌, ℕ, ◌+◌, ◌*◌, ◌%◌, ◌^◌, ◌≤◌}
use Rattle.std.proofs.Common.{◌∙◌, ap, ap₂, arith, mod-lt, pow_pos, shl_exact}
use Rattle.pack.specs.Groups.{group}

power32 : (w : ℕ) → w ≤ 12 → (1 * 2 ^ w) % 4294967296 ≡ 2 ^ w
power32 w h = shl_exact {a = 1} 1 w 32 (omega arith) (omega arith) ∙ (let e : 1 * 2 ^ w ≡ 2 ^ w = omega arith in e)

module _ (f : ℕ → ℕ) (i : ℕ) where
  first : (w : ℕ) → f i % 2 ^ w ≡ group f w i 1
  unfolding group
  first w = ap (λ k. f k % 2 ^ w) (let e : i ≡ i + 0 = omega arith in e) ∙ (let e : f (i + 0) % 2 ^ w ≡ 0 * 2 ^ w + f (i + 0) % 2 ^ w = omega arith in e)

  pub pair : {a b : ℕ} (w : ℕ) → w ≤ 12 → a ≡ f i → b ≡ f (i + 1) → (a % ((1 * 2 ^ w) % 4294967296) * 2 ^ w) % 4294967296 + b % ((1 * 2 ^ w) % 4294967296) ≡ group f w i 2
  unfolding group
  pair {a} {b} w h d e =
      ap (λ m. (a % m * 2 ^ w) % 4294967296 + b % m) (power32 w h)
      ∙ ap (λ x. x + b % 2 ^ w) (shl_exact {a = a % 2 ^ w} w w 32 (mod-lt a (pow_pos w)) (omega arith))
      ∙ ap₂ (λ x y. x * 2 ^ w + y % 2 ^ w) (ap (λ x. x % 2 ^ w) d ∙ first w) e

  pub four : {a b c d : ℕ} → a ≡ f i % 2 ^ 6 → b ≡ f (i + 1) % 2 ^ 6 → c ≡ f (i + 2) % 2 ^ 6 → d ≡ f (i + 3) % 2 ^ 6 → ((a * 64 + b) * 64 + c) * 64 + d ≡ group f 6 i 4
  unfolding group
  four e₀ e₁ e₂ e₃ = λ t. (((e₀ ∙ first 6) t * 64 + e₁ t) * 64 + e₂ t) * 64 + e₃ t

-- The kind of a node without lists and its other field, as they lead 32 bits: the kind in its place in the word, the other moved behind it. Assumes nothing.
use Rattle.std.specs.Prelude.{◌≡◌, ℕ, ◌+◌, ◌-◌, ◌*◌, ◌/◌, ◌%◌, ◌^◌, ◌≤◌, ◌<◌}
use Rattle.std.proofs.Common.{sym, ◌∙◌, ap, ap₂, arith, add-mul, mul_assoc, pow-add, shl_exact, mod-lt, mod-eq_of_lt, pow_pos}
use Rattle.bits.specs.Cursors.{leading}
use Rattle.bits.specs.CursorLaws.{shl_low, sum_fits}

module _ (v w k : ℕ) (few : w ≤ 16) (word : v < 4294967296) (width : k ≡ 4 + w) where
  -- The other field, moved in 64 bits.
  other : (v * 2 ^ (32 - k)) % 2 ^ 64 % 2 ^ 28 ≡ v % 2 ^ w * 2 ^ (28 - w)
  other =
      ap (λ n. (v * 2 ^ n) % 2 ^ 64 % 2 ^ 28) (let e : 32 - k ≡ 28 - w = omega arith in e)
      ∙ ap (λ x. x % 2 ^ 28) (shl_exact {a = v} 32 (28 - w) 64 word (omega arith))
      ∙ ap (λ n. (v * 2 ^ (28 - w)) % 2 ^ n) (let e : 28 ≡ w + (28 - w) = omega arith in e)
      ∙ shl_low v w (28 - w)

  pub plain_leading : v / 268435456 * 268435456 + (v * 2 ^ (32 - k)) % 2 ^ 64 % 2 ^ 28 ≡ leading k (v / 268435456 * 2 ^ w + v % 2 ^ w)
  plain_leading =
      let x = v / 268435456 in
      let y = v % 2 ^ w in
      let small : x < 2 ^ 4 = omega arith in
      let fits : x * 2 ^ w + y < 2 ^ (4 + w) = sum_fits 4 w x y small (mod-lt v (pow_pos w)) in
      let up : x * 2 ^ w * 2 ^ (28 - w) ≡ x * 268435456 =
      mul_assoc x (2 ^ w) (2 ^ (28 - w)) ∙ ap (λ n. x * n) (sym (pow-add 2 w (28 - w)) ∙ ap (λ n. 2 ^ n) (let e : w + (28 - w) ≡ 28 = omega arith in e)) in
      ap (λ n. x * 268435456 + n) other
      ∙ ap (λ n. n + y * 2 ^ (28 - w)) (sym up)
      ∙ sym (add-mul (x * 2 ^ w) y (2 ^ (28 - w)))
      ∙ ap₂ (λ a n. a * 2 ^ n) (sym (mod-eq_of_lt fits)) (let e : 28 - w ≡ 32 - (4 + w) = omega arith in e)
      ∙ ap (λ n. leading n (x * 2 ^ w + y)) (sym width)

-- Groups of a list's values, one after the other, are its run; and a group begins with each shorter one.
use Rattle.std.specs.Prelude.{◌≡◌, refl, ◌++◌, ℕ, zero, suc, ◌+◌, ◌*◌, ◌/◌, ◌%◌, ◌^◌, ◌<◌}
use Rattle.std.proofs.Common.{sym, ◌∙◌, ap, ap₂, append_assoc, append-nil, mod-lt, mul-suc, arith, pow_pos, shr-shr}
use Rattle.std.proofs.Math.Pow.{high, field, mod-mod-pow}
use Rattle.std.proofs.Math.Pow as pow
use Rattle.model.specs.Bits.{bits_of}
use Rattle.bits.specs.RunLaws.{bits_parted}
use Rattle.bits.specs.Splice.{low}
use Rattle.bits.specs.SpliceLaws.{low_of}
use Rattle.pack.specs.Flat.{list_run}
use Rattle.pack.specs.Groups.{group}

-- The low bits of a number in two parts.
low_parted : (n k x y : ℕ) → y < 2 ^ k → low (n + k) (x * 2 ^ k + y) ≡ low n x ++ low k y
low_parted n k x y h =
    let v = x * 2 ^ k + y in
    low_of (n + k) v
    ∙ bits_parted n k (v % 2 ^ (n + k)) (mod-lt v (pow_pos (n + k)))
    ∙ ap₂ (λ a b. bits_of n a ++ bits_of k b) (field v n k ∙ ap (λ a. a % 2 ^ n) (high x k h)) (mod-mod-pow v n k ∙ pow.low x k h ∙ sym (native.Mathlib.Nat.mod-eq_of_lt h))
    ∙ sym (ap₂ (λ a b. a ++ b) (low_of n x) (low_of k y))

module _ (f : ℕ → ℕ) (w : ℕ) where
  pub group_run : (i n : ℕ) → list_run f w i ++ low (w * n) (group f w i n) ≡ list_run f w (i + n)
  unfolding list_run group
  group_run i zero =
      ap₂ (λ k v. list_run f w i ++ low k v) (let z : w * zero ≡ 0 = omega arith in z) refl
      ∙ ap (λ l. list_run f w i ++ l) (low_of 0 0)
      ∙ append-nil (list_run f w i)
      ∙ ap (list_run f w) (let z : i ≡ i + zero = omega arith in z)
  group_run i (suc n) =
      let x = f (i + n) % 2 ^ w in
      ap (λ k. list_run f w i ++ low k (group f w i n * 2 ^ w + x)) (mul-suc w n)
      ∙ ap (λ l. list_run f w i ++ l) (low_parted (w * n) w (group f w i n) x (mod-lt (f (i + n)) (pow_pos w)))
      ∙ sym (append_assoc (list_run f w i) (low (w * n) (group f w i n)) (low w x))
      ∙ ap₂ (λ a b. a ++ b) (group_run i n) (low_of w x ∙ ap (bits_of w) (native.Mathlib.Nat.mod-mod (f (i + n)) (2 ^ w)) ∙ sym (low_of w (f (i + n))))
      ∙ ap (list_run f w) (let z : suc (i + n) ≡ i + suc n = omega arith in z)

  pub group_front : (i l m : ℕ) → group f w i (l + m) / 2 ^ (w * m) ≡ group f w i l
  unfolding group
  group_front i l zero =
      ap₂ (λ n k. group f w i n / 2 ^ k) (let z : l + zero ≡ l = omega arith in z) (let z : w * zero ≡ 0 = omega arith in z) ∙ (let z : group f w i l / 1 ≡ group f w i l = omega arith in z)
  group_front i l (suc m) =
      let x = f (i + (l + m)) % 2 ^ w in
      ap₂ (λ n k. group f w i n / 2 ^ k) (let z : l + suc m ≡ suc (l + m) = omega arith in z) (mul-suc w m ∙ (let z : w * m + w ≡ w + w * m = omega arith in z))
      ∙ sym (shr-shr (group f w i (l + m) * 2 ^ w + x) w (w * m))
      ∙ ap (λ v. v / 2 ^ (w * m)) (high (group f w i (l + m)) w (mod-lt (f (i + (l + m))) (pow_pos w)))
      ∙ group_front i l m

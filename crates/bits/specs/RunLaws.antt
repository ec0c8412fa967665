-- Runs of bits in parts: of numbers, and of bytes.
use Rattle.std.specs.Prelude.{◌≡◌, refl, List, [], ◌∷◌, ◌++◌, ℕ, zero, suc, ◌+◌, ◌*◌, ◌/◌, ◌%◌, ◌^◌, ◌<◌, take, drop, replicate}
use Rattle.std.proofs.Common.{sym, ◌∙◌, ap, ap₂, subst, append_assoc, arith, pow_pos, shr-shr}
use native.Mathlib.Nat.{mod-lt, mod-eq_of_lt}
use Rattle.std.proofs.Math.Pow.{field, mod-mod-pow}
use lib.Seq.{drop_at, drop-drop, drop-nil, take_at, take-nil}
use Rattle.model.specs.Fields.{split}
use Rattle.model.specs.Bits.{bits_of, run_of}
use Rattle.laws.proofs.BitLaws.{length_bits_lem}

one : (n : ℕ) → 1 * n ≡ n
one n = omega arith

-- The bits of a number, parted anywhere.
pub bits_parted : (n k v : ℕ) → v < 2 ^ (n + k) → bits_of (n + k) v ≡ bits_of n (v / 2 ^ k) ++ bits_of k (v % 2 ^ k)
bits_parted zero k v h =
    let e : zero + k ≡ k = omega arith in
    ap (λ m. bits_of m v) e ∙ ap (bits_of k) (sym (mod-eq_of_lt (subst (λ m. v < 2 ^ m) e h)))
bits_parted (suc n) k v h =
    let e : suc n + k ≡ suc (n + k) = omega arith in
    let c : k + n ≡ n + k = omega arith in
    let u = v % 2 ^ (n + k) in
    ap (λ m. bits_of m v) e
    ∙ ap (λ m. (v / 2 ^ m) ∷ bits_of (n + k) (v % 2 ^ m)) (one (n + k))
    ∙ ap (λ l. (v / 2 ^ (n + k)) ∷ l) (bits_parted n k u (mod-lt v (pow_pos (n + k))) ∙ ap₂ (λ x y. bits_of n x ++ bits_of k y) (field v n k) (mod-mod-pow v n k))
    ∙ ap₂ (λ x m. x ∷ (bits_of n (v / 2 ^ k % 2 ^ m) ++ bits_of k (v % 2 ^ k))) (sym (shr-shr v k (1 * n) ∙ ap (λ m. v / 2 ^ m) (ap (λ m. k + m) (one n) ∙ c))) (sym (one n))

pub bits_none : (k : ℕ) → bits_of k 0 ≡ replicate k 0
bits_none zero = refl
bits_none (suc k) =
    let p : 0 < 2 ^ (1 * k) = pow_pos (1 * k) in
    let q : 0 / 2 ^ (1 * k) ≡ 0 = zero_over (2 ^ (1 * k)) in
    let r : 0 % 2 ^ (1 * k) ≡ 0 = mod-eq_of_lt p in
    ap₂ (λ x y. x ∷ bits_of k y) q r ∙ ap (λ l. 0 ∷ l) (bits_none k)
  where
    zero_over : (n : ℕ) → 0 / n ≡ 0
    zero_over n = native.Mathlib.Nat.zero-div n

-- ---- the bits of bytes
pub run_append : (bs cs : List ℕ) → run_of (bs ++ cs) ≡ run_of bs ++ run_of cs
run_append [] cs = refl
run_append (b ∷ bs) cs = ap (λ l. bits_of 8 b ++ l) (run_append bs cs) ∙ sym (append_assoc (bits_of 8 b) (run_of bs) (run_of cs))

pub run_drop : (i : ℕ) (bs : List ℕ) → drop (8 * i) (run_of bs) ≡ run_of (drop i bs)
run_drop zero bs = refl
run_drop (suc i) [] = drop-nil (8 * suc i)
run_drop (suc i) (b ∷ bs) = ap (λ n. drop n (bits_of 8 b ++ run_of bs)) (let e : 8 * suc i ≡ 8 + 8 * i = omega arith in e) ∙ sym (drop-drop (8 * i) 8 (bits_of 8 b ++ run_of bs)) ∙ ap (drop (8 * i)) (drop_at (bits_of 8 b) (run_of bs) 8 (length_bits_lem 8 b)) ∙ run_drop i bs

pub run_take : (i : ℕ) (bs : List ℕ) → take (8 * i) (run_of bs) ≡ run_of (take i bs)
run_take zero bs = refl
run_take (suc i) [] = take-nil (8 * suc i)
run_take (suc i) (b ∷ bs) =
    ap (λ n. take n (bits_of 8 b ++ run_of bs)) (let e : 8 * suc i ≡ 8 + 8 * i = omega arith in e)
    ∙ lib.Seq.take-add 8 (8 * i) (bits_of 8 b ++ run_of bs)
    ∙ ap₂ (λ x y. x ++ take (8 * i) y) (take_at (bits_of 8 b) (run_of bs) 8 (length_bits_lem 8 b)) (drop_at (bits_of 8 b) (run_of bs) 8 (length_bits_lem 8 b))
    ∙ ap (λ l. bits_of 8 b ++ l) (run_take i bs)

-- The bytes of a number of n bytes hold its bits.
pub run_split : (n v : ℕ) → v < 2 ^ (8 * n) → run_of (split 8 n v) ≡ bits_of (8 * n) v
run_split zero v h = refl
run_split (suc n) v h =
    let e : 8 * suc n ≡ 8 + 8 * n = omega arith in
    ap (λ l. bits_of 8 (v / 2 ^ (8 * n)) ++ l) (run_split n (v % 2 ^ (8 * n)) (mod-lt v (pow_pos (8 * n))))
    ∙ sym (bits_parted 8 (8 * n) v (subst (λ m. v < 2 ^ m) e h))
    ∙ ap (λ m. bits_of m v) (sym e)

-- A field of a word, as code reads it by a shift.
use Rattle.std.specs.Prelude.{◌≡◌}
use Rattle.std.proofs.Common.{sym, ◌∙◌, mul-suc, mul-add, mul_comm, add_comm, mod-eq_of_lt, div-lt_iff_lt-mul, arith, pow_pos, pow-add}
use Rattle.std.proofs.Math.Path.{ap}
use Prim.Native.Nat.{ℕ, zero, suc, ◌+◌, ◌-◌, ◌*◌, ◌/◌, ◌%◌, ◌^◌, ◌≤◌, ◌<◌}
use Rattle.std.proofs.Math.Nat.{mod-lt}
use Rattle.std.proofs.Math.Pow.{field, mod-mod-pow}
use Rattle.std.proofs.Math.ListN.{get_or}
use Rattle.model.specs.Fields.{bits, split}
use Rattle.laws.proofs.WordLaws.{padded_none, split_nil}

-- ---- the fields of a word, each by its place
pub digits_high : (width n w : ℕ) → w < 2 ^ (width * suc n) → w / 2 ^ (width * n) < 2 ^ width
digits_high width n w h =
    let e : 2 ^ (width * suc n) ≡ 2 ^ width * 2 ^ (width * n) = ap (λ x. 2 ^ x) (mul-suc width n ∙ add_comm (width * n) width) ∙ pow-add 2 width (width * n) in
    let k : w < 2 ^ width * 2 ^ (width * n) = rw e at h in
    (div-lt_iff_lt-mul {k = 2 ^ (width * n)} {x = w} {y = 2 ^ width} (pow_pos (width * n))).1 k

-- A field below the first one, seen past the first.
digits_low : (width n m w : ℕ) → m < n → bits (width * m) width (w % 2 ^ (width * n)) ≡ bits (width * m) width w
digits_low width n m w h =
    let e : width * n ≡ (width * (n - suc m) + width) + width * m =
    ap (λ x. width * x) (let q : n ≡ suc (n - suc m) + m = omega arith in q) ∙ mul-add width (suc (n - suc m)) m ∙ ap (λ x. x + width * m) (mul-suc width (n - suc m)) in
    ap (λ x. bits (width * m) width (w % 2 ^ x)) e
    ∙ ap (λ x. x % 2 ^ width) (field w (width * (n - suc m) + width) (width * m))
    ∙ mod-mod-pow (w / 2 ^ (width * m)) (width * (n - suc m)) width

pub split_place : (width n k w : ℕ) → w < 2 ^ (width * n) → k < n → get_or (split width n w) k 0 ≡ bits (width * (n - suc k)) width w
split_place width zero k w h p = absurd (omega arith)
split_place width (suc n) zero w h p =
    sym (ap (λ m. bits (width * m) width w) (let e : suc n - suc zero ≡ n = omega arith in e) ∙ mod-eq_of_lt (digits_high width n w h))
split_place width (suc n) (suc k) w h p =
    split_place width n k (w % 2 ^ (width * n)) (mod-lt w (pow_pos (width * n))) (omega arith)
    ∙ digits_low width n (n - suc k) w (omega arith)
    ∙ ap (λ m. bits (width * m) width w) (let e : n - suc k ≡ suc n - suc (suc k) = omega arith in e)

-- The same as code reads it: the shift is less by a width from each place to the next.
pub split_shift : (width n k w : ℕ) → w < 2 ^ (width * suc n) → k ≤ n → w / 2 ^ (width * n - k * width) % 2 ^ width ≡ get_or (split width (suc n) w) k 0
split_shift width n k w h p =
    let all : width * n ≡ width * (n - k) + width * k = ap (λ x. width * x) (let q : n ≡ n - k + k = omega arith in q) ∙ mul-add width (n - k) k in
    let less : width * n - k * width ≡ width * (n - k) = omega (arith, mul_comm k width) in
    ap (λ x. w / 2 ^ x % 2 ^ width) (less ∙ ap (λ x. width * x) (let q : n - k ≡ suc n - suc k = omega arith in q))
    ∙ sym (split_place width (suc n) k w h (omega arith))

-- Every field of 0 is 0.
pub split_none : (width n k : ℕ) → get_or (split width n 0) k 0 ≡ 0
split_none width n k = ap (λ l. get_or l k 0) (split_nil width n) ∙ padded_none n k

-- A mask of obligations answers whether one is held. Assumes nothing.
use mathlib.Core.Path.{◌≡◌, refl, sym, ◌∙◌, ap, ap₂, subst}
use mathlib.Core.Bool.{Bool, true, false, cond, ◌||◌, or-false, or_assoc}
use mathlib.Core.List.{List, [], ◌∷◌, ◌++◌}
use Prim.Native.Nat.{ℕ, zero, suc, ◌+◌, ◌/◌, ◌%◌, ◌^◌, ◌<◌}
use native.Mathlib.Nat.{zero-div, pow-suc, mul-mod_left, div-one, div-eq_of_lt, mul-div-mul_right, mod-lt}
use native.Mathlib.Omega.{arith}
use lib.ListN.{length, take, get_or}
use Rattle.std.proofs.lemmas.List.{take_more}
use lib.Dec.{eqb, eqb-zero-suc, eqb-suc-zero, eqb-suc-suc}
use lib.Pow.{pow-lt}
use lib.Bits.{bit_or, or_shr, or_mod}
use Rattle.model.specs.Decision.{held}
use Rattle.model.specs.Reading.{obligation_count}
use Rattle.laws.specs.Lists.{Below}
use Rattle.decision.specs.Answers.{mask_from, Masked}

-- ---- bits
abbrev bit_of : Bool → ℕ
bit_of b = cond b 1 0

abbrev pub bit_at : ℕ → ℕ → ℕ
bit_at m b = m / 2 ^ b % 2

power_bit : (x b : ℕ) → bit_at (2 ^ x) b ≡ bit_of (eqb b x)
power_bit zero zero = refl
power_bit zero (suc b) = ap (λ n. n % 2) (div-eq_of_lt {n = 1} {m = 2 ^ suc b} (pow-lt {i = 0} {j = suc b} (omega arith))) ∙ sym (ap bit_of (eqb-suc-zero b))
power_bit (suc x) zero = ap (λ n. n % 2) (div-one (2 ^ suc x) ∙ pow-suc 2 x) ∙ mul-mod_left (2 ^ x) 2 ∙ sym (ap bit_of (eqb-zero-suc x))
power_bit (suc x) (suc b) =
    ap₂ (λ m n. m / n % 2) (pow-suc 2 x) (pow-suc 2 b)
    ∙ ap (λ n. n % 2) (mul-div-mul_right {m = 2} (2 ^ x) (2 ^ b) (omega arith))
    ∙ power_bit x b
    ∙ ap bit_of (sym (eqb-suc-suc b x))

or_bit : (m x b : ℕ) → bit_at (bit_or m (2 ^ x)) b ≡ bit_or (bit_at m b) (bit_of (eqb b x))
or_bit m x b = ap (λ n. n % 2) (or_shr m (2 ^ x) b) ∙ or_mod (m / 2 ^ b) (2 ^ x / 2 ^ b) 1 ∙ ap (bit_or (bit_at m b)) (power_bit x b)

or_test : (n : ℕ) (t : Bool) → n < 2 → eqb (bit_or n (bit_of t)) 1 ≡ (eqb n 1 || t)
or_test zero true h = refl
or_test zero false h = refl
or_test (suc zero) true h = refl
or_test (suc zero) false h = refl
or_test (suc (suc n)) t h = let z : ⊥ = omega arith in absurd z

-- ---- the mask of a list
pub mask_end : (m x : ℕ) (xs : List ℕ) → mask_from m (xs ++ x ∷ []) ≡ bit_or (mask_from m xs) (2 ^ x)
mask_end m x [] = refl
mask_end m x (y ∷ xs) = mask_end (bit_or m (2 ^ y)) x xs

pub mask_append : (m : ℕ) (xs ys : List ℕ) → mask_from m (xs ++ ys) ≡ mask_from (mask_from m xs) ys
mask_append m [] ys = refl
mask_append m (x ∷ xs) ys = mask_append (bit_or m (2 ^ x)) xs ys

mask_held : (m b : ℕ) (xs : List ℕ) → eqb (bit_at (mask_from m xs) b) 1 ≡ (eqb (bit_at m b) 1 || held b xs)
mask_held m b [] = sym (or-false (eqb (bit_at m b) 1))
mask_held m b (x ∷ xs) =
    mask_held (bit_or m (2 ^ x)) b xs
    ∙ ap (λ t. t || held b xs) (ap (λ n. eqb n 1) (or_bit m x b) ∙ or_test (bit_at m b) (eqb b x) (mod-lt (m / 2 ^ b) (omega arith)))
    ∙ or_assoc (eqb (bit_at m b) 1) (eqb b x) (held b xs)

pub mask_of : (b : ℕ) (xs : List ℕ) → eqb (bit_at (mask_from 0 xs) b) 1 ≡ held b xs
mask_of b xs = mask_held 0 b xs ∙ ap (λ n. eqb (n % 2) 1 || held b xs) (zero-div (2 ^ b))

-- ---- lists with one more
pub below_first : (n : ℕ) (ps qs : List ℕ) → Below n (ps ++ qs) → Below n ps
below_first n [] qs h = tt
below_first n (p ∷ ps) qs h = (h.0, below_first n ps qs h.1)

pub below_second : (n : ℕ) (ps qs : List ℕ) → Below n (ps ++ qs) → Below n qs
below_second n [] qs h = h
below_second n (p ∷ ps) qs h = below_second n ps qs h.1

-- One more, in a turn of a loop.
pub masked_more : (m : ℕ) (os : List ℕ) (i x y : ℕ) → i < length os → Masked m (take i os) x →
    (get_or os i 0 < obligation_count → y ≡ bit_or x (2 ^ get_or os i 0)) → Masked m (take (i + 1) os) y
masked_more m os i x y h k e =
    let o : ℕ = get_or os i 0 in
    subst (λ l. Masked m l y) (sym (take_more os i 0 h)) (record {
      is = λ b.
          e (below_second obligation_count (take i os) (o ∷ []) b).0
          ∙ ap (λ n. bit_or n (2 ^ o)) (k.is (below_first obligation_count (take i os) (o ∷ []) b))
          ∙ sym (mask_end m o (take i os));
    })

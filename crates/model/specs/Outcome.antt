-- Outcomes. Document 01, "What a call receives": an outcome is a set of sixteen products.
use Rattle.std.specs.Prelude.{Bool, cond, List, [], ◌∷◌, ℕ, ◌-◌, ◌^◌, eqb, ltb}
use Rattle.std.proofs.Math.Option.{Option, none, some}
use Rattle.std.specs.Int.Bits.{bit_and, bit_or}

-- What the rules ask of outcomes: a test for equality, a meet and a join; and the outcome's field in a word:
-- the number of an outcome, and the outcome that a number stands for, if there is one.
pub record Outcomes : Type 1 where
  pub O : Type 0
  pub same : O → O → Bool
  pub meet : O → O → O
  pub join : O → O → O
  pub number : O → ℕ
  pub value : ℕ → Option O

-- An outcome takes 16 bits.
abbrev pub outcome_bits : ℕ
outcome_bits = 16

-- ---- sets of products, one bit each: meet is intersection, join is union

-- The two ends: no product, and all sixteen.
abbrev pub no_product : ℕ
no_product = 0

abbrev pub all_products : ℕ
all_products = 2 ^ outcome_bits - 1

-- The numbers below a bound stand for themselves.
abbrev pub below : ℕ → ℕ → Option ℕ
below n o = cond (ltb o n) (some o) none

abbrev pub product_sets : Outcomes
product_sets = record { O = ℕ; same = eqb; meet = bit_and; join = bit_or; number = λ o. o; value = below (2 ^ outcome_bits) }

-- What a list of permitted sets comes to: under Any from no product on, under All from all sixteen.
abbrev pub union_of : List ℕ → ℕ
union_of [] = no_product
union_of (o ∷ os) = bit_or o (union_of os)

abbrev pub intersection_of : List ℕ → ℕ
intersection_of [] = all_products
intersection_of (o ∷ os) = bit_and o (intersection_of os)

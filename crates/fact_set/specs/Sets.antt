-- What a set of facts has, and what is added to it. Document 01, "Required facts".
use Rattle.std.specs.Prelude.{◌≡◌, Bool, false, ◌||◌, List, [], ◌∷◌, ℕ, zero, suc, ◌+◌, ◌/◌, ◌≤◌, ◌<◌, length}
use Rattle.model.specs.Fields.{joined}
use Rattle.model.specs.Facts.{fact_count}
use Rattle.model.specs.Required.{flags, fact_set}

-- A set has, after, the facts that it had before and exactly those that are named besides.
pub record Grown (names : ℕ → Bool) (before after : List ℕ) : Type 0 where
  pub grown : (named : ℕ → Bool) → before ≡ fact_set named → after ≡ fact_set (λ f. named f || names f)

-- Whether a set has a fact. One that has no number for the fact does not.
pub record Contained (fact : ℕ) (set : List ℕ) (r : Bool) : Type 0 where
  pub is_named : (named : ℕ → Bool) → set ≡ fact_set named → fact < fact_count → r ≡ named fact
  pub too_short : length set ≤ fact / 64 → r ≡ false

-- A set number by number: m numbers of n facts each, from `from` on.
unfoldable pub numbers : (ℕ → Bool) → ℕ → ℕ → ℕ → List ℕ
numbers named n zero from = []
numbers named n (suc m) from = joined 1 n (flags named from n) ∷ numbers named n m (from + n)

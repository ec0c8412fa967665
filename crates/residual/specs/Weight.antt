-- How many words a residual takes, where a fact list that can't be counted makes it too long for a record. Document 01, "How a request is turned back", 11.
use Rattle.std.specs.Prelude.{cond, ℕ, ◌+◌}
use Rattle.model.specs.Decision.{Decision}
use Rattle.model.specs.Policy.{Policy, permit, deny, grant, all, any, or_else, stored, Policies, pnil, pcons}
use Rattle.model.specs.Writing.{short_d}
use Rattle.laws.specs.Size.{quads, words_c, words_d}
use Rattle.sizes.specs.Laid.{too_many}

-- A node 12 or 13, and a tree, as `words` counts them.
abbrev pub weight_d : {O : Type 0} → Decision O → ℕ
weight_d d = cond (short_d d) (words_d d) too_many

abbrev mutual
  pub weight : {O : Type 0} → Policy O → ℕ
  weight (permit o) = 1
  weight deny = 1
  weight (grant g c) = 2 + quads g.obligations + words_c c
  weight (all ts) = 1 + weights ts
  weight (any ts) = 1 + weights ts
  weight (or_else a b) = 1 + weight a + weight b
  weight (stored d) = weight_d d

  pub weights : {O : Type 0} → Policies O → ℕ
  weights pnil = 0
  weights (pcons t ts) = weight t + weights ts

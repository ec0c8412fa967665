-- A sheet or residual names a fact exactly when a Has in its tree carries it.
use Rattle.std.specs.Prelude.{◌≡◌, ◌⊎◌, ℕ}
use Rattle.model.specs.Condition.{Condition, always, never, has, not_c, all_c, any_c, Conditions, cnil, ccons}
use Rattle.model.specs.Policy.{Policy, permit, deny, grant, all, any, or_else, stored, Policies, pnil, pcons}

abbrev mutual
  pub NamesC : ℕ → Condition → Type 0
  NamesC f always = ⊥
  NamesC f never = ⊥
  NamesC f (has g) = f ≡ g
  NamesC f (not_c c) = NamesC f c
  NamesC f (all_c cs) = NamesCs f cs
  NamesC f (any_c cs) = NamesCs f cs

  pub NamesCs : ℕ → Conditions → Type 0
  NamesCs f cnil = ⊥
  NamesCs f (ccons c cs) = NamesC f c ⊎ NamesCs f cs

abbrev mutual
  pub Names : {O : Type 0} → ℕ → Policy O → Type 0
  Names f (permit o) = ⊥
  Names f deny = ⊥
  Names f (grant g c) = NamesC f c
  Names f (all ts) = Namess f ts
  Names f (any ts) = Namess f ts
  Names f (or_else a b) = Names f a ⊎ Names f b
  Names f (stored d) = ⊥

  pub Namess : {O : Type 0} → ℕ → Policies O → Type 0
  Namess f pnil = ⊥
  Namess f (pcons t ts) = Names f t ⊎ Namess f ts

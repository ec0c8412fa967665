-- What holds of each fact that a tree names.
use Rattle.std.specs.Prelude.{◌≡◌, ◌⊎◌, ℕ}
use Rattle.model.specs.Facts.{unknown, Table, heard}
use Rattle.model.specs.Condition.{Condition, always, never, has, not_c, all_c, any_c, Conditions, cnil, ccons}
use Rattle.model.specs.Policy.{Policy, permit, deny, grant, all, any, or_else, stored, Policies, pnil, pcons}

-- Each fact that a Has of the condition carries has Q.
abbrev mutual
  pub EachC : (ℕ → Type 0) → Condition → Type 0
  EachC Q always = Unit {0}
  EachC Q never = Unit {0}
  EachC Q (has f) = Q f
  EachC Q (not_c c) = EachC Q c
  EachC Q (all_c cs) = EachCs Q cs
  EachC Q (any_c cs) = EachCs Q cs

  pub EachCs : (ℕ → Type 0) → Conditions → Type 0
  EachCs Q cnil = Unit {0}
  EachCs Q (ccons c cs) = EachC Q c × EachCs Q cs

-- Each fact that a Has in the tree carries has Q.
abbrev mutual
  pub Each : {O : Type 0} → (ℕ → Type 0) → Policy O → Type 0
  Each Q (permit o) = Unit {0}
  Each Q deny = Unit {0}
  Each Q (grant g c) = EachC Q c
  Each Q (all ts) = Eachs Q ts
  Each Q (any ts) = Eachs Q ts
  Each Q (or_else a b) = Each Q a × Each Q b
  Each Q (stored d) = Unit {0}

  pub Eachs : {O : Type 0} → (ℕ → Type 0) → Policies O → Type 0
  Eachs Q pnil = Unit {0}
  Eachs Q (pcons t ts) = Each Q t × Eachs Q ts

-- The table P reads the fact f as Unknown, or as K does, silence being Absent.
abbrev pub Agrees : Table → Table → ℕ → Type 0
Agrees K P f = (P f ≡ unknown) ⊎ (heard (P f) ≡ heard (K f))
